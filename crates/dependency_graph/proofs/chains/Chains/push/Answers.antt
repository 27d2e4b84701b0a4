use Rattle.std.proofs.Common.{arith, ◌≡◌, true, sym, subst, is_some}
use Rattle.slab.specs.Slab.{HasRoomFor}
use Rattle.dependency_graph.specs.Chains.{entry_at}
use Rattle.dependency_graph.proofs.chains.Chains.push.Goals as goal

pub returns-clause-room : goal.returns-clause-room
returns-clause-room c = record {
  edges = λ more room.
      let kept : HasRoomFor c.insert_reserved-at.new.self more = omega (arith, room, c.insert_reserved-at.ensures.len, c.insert_reserved-at.ensures.capacity) in
      c.link.ensures.room more (subst (λ edges. HasRoomFor edges more) (sym c.put_last.ensures.edges) kept);
  entries = λ k had. subst (λ table. is_some (entry_at table.entries k) ≡ true) (sym c.link.ensures.table) (c.put_last.ensures.stays k had);
}
