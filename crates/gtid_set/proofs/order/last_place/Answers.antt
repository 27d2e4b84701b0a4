use Rattle.std.proofs.Common.{◌≡◌, ◌-◌, length, sym, ap, subst, ◌∙◌, Some, get_or, arith, List, ℕ, ◌≤◌}
use Rattle.std.specs.List.{slice_get}
use Rattle.std.proofs.lemmas.Option.{slice_get-get_or}
use Rattle.gtid_set.proofs.OrderLemmas.{last_got, none_got}
use Rattle.gtid_set.proofs.order.last_place.Goals as goal

pub returns-then-count-gt0 : goal.returns-then-count-gt0
returns-then-count-gt0 c =
    let places = c.places-places.result.now in
    let some = c.if-count-gt0.true in
    let got : slice_get c.in-Some.block.now (length c.in-Some.block.now - 1) ≡ Some (get_or places (length places - 1) 0) =
    ap (λ xs. slice_get xs (length xs - 1)) (sym c.places-places.ensures) ∙ slice_get-get_or places (length places - 1) 0 (omega (arith, some)) in
    sym (ap (λ xs. slice_get xs (length xs - 1)) (sym c.loop-block.invariant) ∙ last_got c.loop-block.rest.now c.in-Some.before.now c.in-Some.block.now _ c.in-Some.ensures.cases.0 got)

pub loop-block-preserved : goal.loop-block-preserved
loop-block-preserved c =
    let none = c.if-count-gt0.false in
    let short : length c.in-Some.block.now ≤ 0 = subst (λ (xs : List ℕ). length xs ≤ 0) c.places-places.ensures (omega (arith, none)) in
    none_got c.loop-block.rest.now c.in-Some.before.now c.in-Some.block.now c.in-Some.ensures.cases.0 short ∙ c.loop-block.invariant
