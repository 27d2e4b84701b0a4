use Rattle.std.proofs.Common.{◌≡◌, ◌+◌, ◌∙◌, Some, drop, length, sym, ap, subst, arith}
use Rattle.std.proofs.lemmas.Option.{slice_get-get_or}
use Rattle.std.specs.Option.{option_map}
use Rattle.world.specs.declared.verdict.Verdict.TheVariants.{DoesNotApply}
use Rattle.world.specs.Audit.{first_fault}
use Rattle.std.specs.Prelude.{slice_get}
use Rattle.audit.proofs.RefusalsInOrder.{refused, applied}
use Rattle.audit.proofs.applying_in_order.first_refusal.Goals as goal

pub returns-in-Some : goal.returns-in-Some
returns-in-Some c =
    let e = c.index-as_slice-place.result in
    let place = c.loop-place.place in
    let at : slice_get c.args.order.now.entries place ≡ Some e = subst (λ l. slice_get l place ≡ Some e) c.as_slice.ensures.entries (slice_get-get_or c.as_slice.result.now place e (omega (c.loop-place-test.true, c.len-place-end.ensures.len, ap length c.as_slice.ensures.entries, arith)) ∙ ap Some (sym c.index-as_slice-place.is)) in
    refused c.loop-place.rows.schema c.args.order.now.entries place e.0 e.1 c.loop-place.rows.rows at c.in-Some.verdict (sym c.in-Some.is ∙ c.in_ok-verdict.ensures.found)
    ∙ ap (option_map (λ fault. DoesNotApply fault.0 fault.1)) c.loop-place.invariant.0

pub loop-place-preserved : goal.loop-place-preserved
loop-place-preserved c =
    let e = c.index-as_slice-place.result in
    let place = c.loop-place.place in
    let at : slice_get c.args.order.now.entries place ≡ Some e = subst (λ l. slice_get l place ≡ Some e) c.as_slice.ensures.entries (slice_get-get_or c.as_slice.result.now place e (omega (c.loop-place-test.true, c.len-place-end.ensures.len, ap length c.as_slice.ensures.entries, arith)) ∙ ap Some (sym c.index-as_slice-place.is)) in
    let new = applied c.loop-place.rows.schema c.args.order.now.entries place e.0 e.1 c.loop-place.rows.rows at c.apply_one.new.rows.rows (c.in_ok-verdict.ensures.rows c.in_default.is) in
    ((λ i. first_fault (c.in_ok-verdict.ensures.schema i) (drop (place + 1) c.args.order.now.entries) c.apply_one.new.rows.rows) ∙ new ∙ c.loop-place.invariant.0, c.in_ok-verdict.ensures.schema ∙ c.loop-place.invariant.1)
