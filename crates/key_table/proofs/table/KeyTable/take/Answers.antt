use Rattle.std.proofs.Common.{rules, ◌≡◌, ◌<◌, ◌≤◌, ◌+◌, ◌-◌, ℕ, length, get_or, Some, sym, ap, subst, ◌∙◌, arith}
use Rattle.std.proofs.lemmas.Option.{slice_get-get_or}
use Rattle.std.specs.List.{swap_remove}
use Rattle.std_collections.proofs.HashLookup.{IsHashed-length, IsHashed-swap_remove}
use Rattle.indexmap.proofs.MapLemmas.{Found-position, swap_remove-default}
use Rattle.indexmap.specs.IndexMap.{index_of}
use Rattle.key_table.specs.Reached.{AreReached, IsWithout, key_hash}
use Rattle.key_table.proofs.TableChanges.{carried, written}
use Rattle.key_table.proofs.table.KeyTable.take.Goals as goal

pub invariant_of-self : goal.invariant_of-self
invariant_of-self g c =
    let eq = g.K.PartialEq.eq in
    let cmp = g.K.Ord.cmp in
    let hash = λ (k : g.row.K.Denot). key_hash (g.K.Hash.hash_input k) in
    let es = c.self.inside.entries.items in
    let hs = c.self.inside.hashes.items in
    let t = c.self.invariant in
    let place = c.args.place in
    let within : place < length es = (Found-position (eq c.args.key.now) es place (ap (λ m. index_of eq m c.args.key.now) c.self.view_is ∙ c.requires)).within in
    let n : c.self.inside.entries.len ≡ length es = search (rules, arith) in
    let left : length c.swap_remove-2.new.self.items + 1 ≡ length es = search (rules, arith) in
    carried eq cmp hash c.leave_place.new.strays c.swap_remove-2.ensures.items
    (c.swap_remove.ensures.items ∙ swap_remove-default hs place _ 0 (omega (within, IsHashed-length eq hash hs es t.0, arith)))
    (written c.self.inside.slots.len c.leave_place.new.slots c.self.inside.slots.items (c.leave_place.ensures.len ∙ ap length c.deref_mut.ensures.value) (search (rules, arith))) (
      IsHashed-swap_remove eq hash g.met.K.Eq.laws hs es place c.swap_remove-2.result within t.0,
      subst (λ l. length l ≤ 4294967290) c.swap_remove-2.ensures.items (omega (left, t.1, arith)),
      subst (λ l. AreReached cmp hash l c.leave_place.new.slots c.leave_place.new.strays) c.swap_remove-2.ensures.items
          (c.leave_place.ensures.leaves c.swap_remove-2.new.self.items
          (subst (λ l. IsWithout cmp l place c.swap_remove-2.new.self.items) (sym c.deref.ensures.value) (
            left,
            λ d less. c.swap_remove-2.ensures.by_index.0 d (subst (λ (m : ℕ). place + 1 < m) (sym n) less) ∙ ap (λ (m : ℕ). get_or es (m - 1) d) n,
            λ k d other less. c.swap_remove-2.ensures.by_index.1 k d other (subst (λ (m : ℕ). k + 1 < m) (sym n) less),
          ))
          (subst (λ l. AreReached cmp hash l c.deref_mut.result.now c.self.inside.strays) (sym c.deref.ensures.value) (subst (λ s. AreReached cmp hash es s c.self.inside.strays) (sym c.deref_mut.ensures.value) t.2))),
    )

pub returns-clause-took : goal.returns-clause-took
returns-clause-took g c =
    let eq = g.K.PartialEq.eq in
    let es = c.self.inside.entries.items in
    let within : c.args.place < length es = (Found-position (eq c.args.key.now) es c.args.place (ap (λ m. index_of eq m c.args.key.now) c.self.view_is ∙ c.requires)).within in
    subst (λ m. Rattle.std.specs.List.slice_get m.entries c.args.place ≡ Some c.swap_remove-2.result) c.self.view_is (slice_get-get_or es c.args.place c.swap_remove-2.result within ∙ ap Some (sym c.swap_remove-2.ensures.value))
