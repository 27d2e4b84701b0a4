use Rattle.std.proofs.Common.{rules, ◌≡◌, ◌-◌, ℕ, length, take, refl, sym, ap, subst, ◌∙◌, arith}
use Rattle.std.specs.List.{IsDistinct}
use Rattle.std.specs.Map.{keys_of}
use Rattle.std_collections.proofs.HashLookup.{IsHashed-length}
use Rattle.key_table.specs.Reached.{key_hash}
use Rattle.key_table.proofs.Moves.{cut}
use Rattle.key_table.proofs.TableChanges.{carried}
use Rattle.key_table.proofs.table.KeyTable.pop.Goals as goal

pub invariant_of-self : goal.invariant_of-self
invariant_of-self g c =
    let eq = g.K.PartialEq.eq in
    let cmp = g.K.Ord.cmp in
    let hash = λ (k : g.row.K.Denot). key_hash (g.K.Hash.hash_input k) in
    let es = c.self.inside.entries.items in
    let hs = c.self.inside.hashes.items in
    let t = c.self.invariant in
    let n : length es ≡ length hs = sym (IsHashed-length eq hash hs es t.0) in
    let entries : c.pop-2.new.self.items ≡ take (length es - 1) es = search (rules, arith) in
    let hashes : c.pop.new.self.items ≡ take (length hs - 1) hs = search (rules, arith) in
    carried eq cmp hash c.self.inside.strays entries (hashes ∙ ap (λ (m : ℕ). take (m - 1) hs) (sym n)) refl (cut eq g.met.K.Eq.laws cmp hash es hs (length es - 1) c.self.inside.slots.items c.self.inside.strays t)

pub returns-clause-unique : goal.returns-clause-unique
returns-clause-unique g c =
    let eq = g.K.PartialEq.eq in
    let cmp = g.K.Ord.cmp in
    let hash = λ (k : g.row.K.Denot). key_hash (g.K.Hash.hash_input k) in
    let es = c.self.inside.entries.items in
    let hs = c.self.inside.hashes.items in
    let t = c.self.invariant in
    let entries : c.pop-2.new.self.items ≡ take (length es - 1) es = search (rules, arith) in
    subst (λ l. IsDistinct eq (keys_of l)) (sym entries) (cut eq g.met.K.Eq.laws cmp hash es hs (length es - 1) c.self.inside.slots.items c.self.inside.strays t).0.0
