use Rattle.std.proofs.Common.{◌+◌, ◌<◌, refl, sym, ap, subst, length, false, arith}
use Rattle.dependency_graph.specs.Chains.{HasRoom}
use Rattle.dependency_graph.specs.Held.{IsHeld}
use Rattle.dependency_graph.proofs.Kept.{length_points}
use Rattle.dependency_graph.proofs.Adding.{kept_reserved}
use Rattle.dependency_graph.proofs.graph.Graph.reserve.Goals as goal

pub invariant_of-result : goal.invariant_of-result
invariant_of-result c = record {
  kept = kept_reserved c.self.inside.dropped c.self.inside.nodes.items c.self.inside.chains c.reserve.new.self c.reserve.ensures.same c.self.invariant.kept;
  listed = c.self.invariant.listed;
}

pub make_room-requires : goal.make_room-requires
make_room-requires c =
    let size = length_points c.self.inside.dropped c.self.inside.nodes.items in
    let same = ap length c.self.view_is in
    omega (size, same, c.requires.room, arith)

pub invariant_of-result-in_default-make_room : goal.invariant_of-result-in_default-make_room
invariant_of-result-in_default-make_room c =
    let d = c.self.inside.dropped in
    let nodes = c.self.inside.nodes.items in
    record {
      kept = kept_reserved d nodes c.self.inside.chains c.reserve.new.self c.reserve.ensures.same c.self.invariant.kept;
      listed = c.make_room.ensures.same c.self.invariant.listed;
    }

pub invariant_of-result-in_default-push_back : goal.invariant_of-result-in_default-push_back
invariant_of-result-in_default-push_back c =
    let d = c.self.inside.dropped in
    let nodes = c.self.inside.nodes.items in
    subst (λ ns. IsHeld d ns c.reserve.new.self c.make_room.new.ready) (sym c.in_default-push_back.ensures.items) (record {
      kept = kept_reserved d nodes c.self.inside.chains c.reserve.new.self c.reserve.ensures.same c.self.invariant.kept;
      listed = c.make_room.ensures.same c.self.invariant.listed;
    })

pub invariant_of-result-2 : goal.invariant_of-result-2
invariant_of-result-2 c =
    let d = c.self.inside.dropped in
    let nodes = c.self.inside.nodes.items in
    let size = length_points d nodes in
    let same = ap length c.self.view_is in
    let few : d + length nodes < 4294967294 = omega (size, same, c.requires.room, arith) in
    record {
      reserved = record {
        old = nodes;
        node = record { finished = false; waits = 0; keys = c.args.keys };
        is = c.in-Ok-push_back.ensures.items;
        unfinished = refl;
        few = few;
        distinct = c.requires.distinct;
        kept = kept_reserved d nodes c.self.inside.chains c.reserve.new.self c.reserve.ensures.same c.self.invariant.kept;
        room = subst (HasRoom c.reserve.new.self) c.deref.ensures.value c.in-Ok.ensures.room;
      };
      listed = c.in-Ok-make_room.ensures.room c.self.invariant.listed;
    }
