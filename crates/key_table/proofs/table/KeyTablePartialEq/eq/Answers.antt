use Rattle.std.proofs.Common.{◌≡◌, ◌<◌, true, length, get_or, Some, slice_get, inl, inr, sym, ap, subst, ◌∙◌, arith}
use Rattle.std.proofs.lemmas.Bool.{cases_eq}
use Rattle.std.proofs.lemmas.Option.{slice_get-get_or}
use Rattle.std.specs.Option.{option_eq}
use Rattle.std_collections.proofs.HashMapEq.{key_at, own_value, unequal_at, unequal_len, equal_by_keys}
use Rattle.indexmap.specs.IndexMap.{get, keys}
use Rattle.key_table.proofs.table.KeyTablePartialEq.eq.Goals as goal

pub returns-then-entries-len : goal.returns-then-entries-len
returns-then-entries-len g c =
    unequal_len _ g.met.K.Eq.laws _ c.args.self.now c.args.other.now c.as_slice-entries.ensures.unique c.len.ensures.unique
    (λ e. c.if-entries-len.true (ap length c.as_slice-entries.ensures.entries ∙ e ∙ sym c.len.ensures.len))

pub returns-then-not-eq : goal.returns-then-not-eq
returns-then-not-eq g c =
    let es = c.args.self.now.entries in
    let i = c.loop-place.place in
    let xs = c.as_slice-entries.result.now in
    let e = c.index-entries-place.result in
    let within : i < length es = subst (λ l. i < length l) c.as_slice-entries.ensures.entries c.loop-place-test.true in
    let at : slice_get es i ≡ Some e = subst (λ l. slice_get l i ≡ Some e) c.as_slice-entries.ensures.entries (slice_get-get_or xs i e c.loop-place-test.true ∙ ap Some (sym c.index-entries-place.is)) in
    let mine = own_value _ g.met.K.Eq.laws es i e.0 _ at c.as_slice-entries.ensures.unique within in
    unequal_at _ g.met.K.Eq.laws _ c.args.self.now c.args.other.now e.0
    ((λ j. option_eq g.V.PartialEq.eq (mine j) (sym c.in-Some.ensures.value j)) ∙ sym c.eq.ensures ∙ c.if-not-eq.true)

pub returns-in-None : goal.returns-in-None
returns-in-None g c =
    let es = c.args.self.now.entries in
    let i = c.loop-place.place in
    let xs = c.as_slice-entries.result.now in
    let e = c.index-entries-place.result in
    let within : i < length es = subst (λ l. i < length l) c.as_slice-entries.ensures.entries c.loop-place-test.true in
    let at : slice_get es i ≡ Some e = subst (λ l. slice_get l i ≡ Some e) c.as_slice-entries.ensures.entries (slice_get-get_or xs i e c.loop-place-test.true ∙ ap Some (sym c.index-entries-place.is)) in
    let mine = own_value _ g.met.K.Eq.laws es i e.0 _ at c.as_slice-entries.ensures.unique within in
    unequal_at _ g.met.K.Eq.laws _ c.args.self.now c.args.other.now e.0 (λ j. option_eq g.V.PartialEq.eq (mine j) (sym c.in-None.ensures.value j))

pub loop-place-preserved : goal.loop-place-preserved
loop-place-preserved g c =
    let es = c.args.self.now.entries in
    let i = c.loop-place.place in
    let xs = c.as_slice-entries.result.now in
    let e = c.index-entries-place.result in
    let within : i < length es = subst (λ l. i < length l) c.as_slice-entries.ensures.entries c.loop-place-test.true in
    let at : slice_get es i ≡ Some e = subst (λ l. slice_get l i ≡ Some e) c.as_slice-entries.ensures.entries (slice_get-get_or xs i e c.loop-place-test.true ∙ ap Some (sym c.index-entries-place.is)) in
    let mine = own_value _ g.met.K.Eq.laws es i e.0 _ at c.as_slice-entries.ensures.unique within in
    let agree = λ (x : g.row.K.Denot). option_eq g.V.PartialEq.eq (get g.K.PartialEq.eq c.args.self.now x) (get g.K.PartialEq.eq c.args.other.now x) ≡ true in
    let here : agree e.0 = (λ j. option_eq g.V.PartialEq.eq (mine j) (sym c.in-Some.ensures.value j)) ∙ sym c.eq.ensures ∙ c.if-not-eq.false in
    λ k less. elim (cases_eq k i) [
      | inl same ↦ λ d. subst (λ n. agree (get_or (keys c.args.self.now) n d)) (sym same) (subst agree (sym (key_at _ g.met.K.Eq.laws es i e.0 _ at d)) here)
      | inr other ↦ c.loop-place.invariant k (omega (less, other, arith))
    ]

pub returns : goal.returns
returns g c =
    equal_by_keys _ g.met.K.Eq.laws _ c.args.self.now c.args.other.now c.as_slice-entries.ensures.unique c.len.ensures.unique
    (ap length (sym c.as_slice-entries.ensures.entries) ∙ c.if-entries-len.false ∙ c.len.ensures.len)
    (λ k p. c.loop-place.invariant k (omega (p, c.loop-place-test.false, ap length c.as_slice-entries.ensures.entries, arith)))
