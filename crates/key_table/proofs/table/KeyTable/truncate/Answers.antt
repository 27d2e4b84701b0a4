use Rattle.std.proofs.Common.{refl, sym, subst}
use Rattle.std.specs.List.{IsDistinct}
use Rattle.std.specs.Map.{keys_of}
use Rattle.key_table.specs.Reached.{key_hash}
use Rattle.key_table.proofs.Moves.{cut}
use Rattle.key_table.proofs.TableChanges.{carried}
use Rattle.key_table.proofs.table.KeyTable.truncate.Goals as goal

pub invariant_of-self : goal.invariant_of-self
invariant_of-self g c =
    let eq = g.K.PartialEq.eq in
    let cmp = g.K.Ord.cmp in
    let hash = λ (k : g.row.K.Denot). key_hash (g.K.Hash.hash_input k) in
    let es = c.self.inside.entries.items in
    let hs = c.self.inside.hashes.items in
    let t = c.self.invariant in
    carried eq cmp hash c.self.inside.strays c.truncate-2.ensures.items c.truncate.ensures.items refl (cut eq g.met.K.Eq.laws cmp hash es hs c.args.len c.self.inside.slots.items c.self.inside.strays t)

pub returns-clause-unique : goal.returns-clause-unique
returns-clause-unique g c =
    let eq = g.K.PartialEq.eq in
    let cmp = g.K.Ord.cmp in
    let hash = λ (k : g.row.K.Denot). key_hash (g.K.Hash.hash_input k) in
    let es = c.self.inside.entries.items in
    let hs = c.self.inside.hashes.items in
    let t = c.self.invariant in
    subst (λ l. IsDistinct eq (keys_of l)) (sym c.truncate-2.ensures.items) (cut eq g.met.K.Eq.laws cmp hash es hs c.args.len c.self.inside.slots.items c.self.inside.strays t).0.0
