use Rattle.std.proofs.Common.{rules, ◌≡◌, ◌<◌, ◌++◌, ◌∷◌, [], length, refl, sym, ap, subst, ◌∙◌, arith}
use Rattle.std.specs.Map.{lookup}
use Rattle.indexmap.specs.IndexMap.{spare}
use Rattle.key_table.specs.Reached.{IsReached, KeepsReached, key_hash}
use Rattle.key_table.proofs.TableChanges.{carried, pushed, room_left, written}
use Rattle.key_table.proofs.table.KeyTable.push.Goals as goal

pub invariant_of-self : goal.invariant_of-self
invariant_of-self g c =
    let eq = g.K.PartialEq.eq in
    let cmp = g.K.Ord.cmp in
    let hash = λ (k : g.row.K.Denot). key_hash (g.K.Hash.hash_input k) in
    let es = c.self.inside.entries.items in
    let place : c.len-place.result ≡ length es = search (rules, arith) in
    carried eq cmp hash c.index-is_new.new.strays c.push_reserved.ensures.items c.push_reserved-2.ensures.items
    (written c.self.inside.slots.len c.index-is_new.new.slots c.self.inside.slots.items (c.index-is_new.ensures.len ∙ ap length c.deref_mut.ensures.value) (search (rules, arith)))
    (pushed eq g.met.K.Eq.laws cmp hash es c.self.inside.hashes.items (c.args.key, c.args.value) c.args.hash c.deref_mut.result.now c.index-is_new.new.slots c.self.inside.strays c.index-is_new.new.strays
    (carried eq cmp hash c.self.inside.strays refl refl c.deref_mut.ensures.value c.self.invariant)
    (room_left _ _ _ (subst (λ m. 0 < spare m) (sym c.self.view_is) c.requires.spare))
    (ap (λ m. lookup (eq c.args.key) m.entries) c.self.view_is ∙ c.requires.absent)
    c.requires.hash
    (subst (λ n. IsReached cmp c.index-is_new.new.slots c.index-is_new.new.strays c.args.key c.args.hash n) place c.index-is_new.ensures.reached)
    (subst (λ n. KeepsReached cmp eq (λ i. i < n) c.args.key c.deref_mut.result.now c.self.inside.strays c.index-is_new.new.slots c.index-is_new.new.strays) place c.index-is_new.ensures.keeps))

pub returns-clause-entries : goal.returns-clause-entries
returns-clause-entries g c = c.push_reserved.ensures.items ∙ ap (λ m. m.entries ++ (c.args.key, c.args.value) ∷ []) c.self.view_is
