use Rattle.std.proofs.Common.{rules, refl, subst, arith}
use Rattle.key_table.specs.Reached.{AreReached, key_hash}
use Rattle.key_table.proofs.TableChanges.{carried, written}
use Rattle.key_table.proofs.table.KeyTable.make_slots.Goals as goal

pub invariant_of-self : goal.invariant_of-self
invariant_of-self g c =
    let eq = g.K.PartialEq.eq in
    let cmp = g.K.Ord.cmp in
    let hash = λ (k : g.row.K.Denot). key_hash (g.K.Hash.hash_input k) in
    carried eq cmp hash c.index_all-self-inside.new.strays refl refl
    (written c.in-Ok.slots.len c.index_all-self-inside.new.slots c.in-Ok.slots.items (search (rules, arith)) (search (rules, arith)))
    (c.self.invariant.0, c.self.invariant.1, subst (λ l. AreReached cmp hash l c.index_all-self-inside.new.slots c.index_all-self-inside.new.strays) c.deref.ensures.value c.index_all-self-inside.ensures.reached)
