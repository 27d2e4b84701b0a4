use Rattle.std.proofs.Common.{length, ◌∷◌, ◌++◌, [], ◌+◌, ◌≤◌, ◌≡◌, Bool, true, false, cond, ℕ, List, arith, ap, sym, ◌∙◌, ◌&&◌, ◌||◌}
use Rattle.std.specs.List.{list_all}
use Rattle.gtid_set.specs.Spans.{has, is_merged}
use Rattle.gtid_set.specs.Sweep.{all_before, is_kept}
use Rattle.gtid_set.proofs.CutLemmas.{kept_step}
use Rattle.gtid_set.proofs.SpanLemmas.{nothing, merged_head}
use Rattle.std.proofs.lemmas.List.{length_push}
use Rattle.gtid_text.specs.declared.Span.{Span}
use Rattle.gtid_set.proofs.single.of_source.Goals as goal

pub loop-span-init : goal.loop-span-init
loop-span-init c =
    let none = nothing c.new-out.result.items c.new-out.ensures.items in
    record {
      rest = c.requires;
      few = (let l = ap length c.new-out.ensures.items in omega (arith, l));
      merged = none.merged;
      before = none.before c.args.spans;
      has = λ q. ap (λ b. b || (has c.args.spans q && is_kept c.args.source c.args.wanted q.source)) (none.none q);
    }

few_step : (out new : List Span) (span : Span) (more rest : List Span) (keep : Bool) (bound : ℕ) → new ≡ cond keep (out ++ span ∷ []) out → rest ≡ span ∷ more → length out + length rest ≤ bound → length new + length more ≤ bound
few_step out new span more rest true bound e parts le =
    let l = ap length e ∙ length_push out span in
    let r = ap length parts in
    omega (arith, l, r, le)
few_step out new span more rest false bound e parts le =
    let l = ap length e in
    let r = ap length parts in
    omega (arith, l, r, le)

pub loop-span-preserved : goal.loop-span-preserved
loop-span-preserved c =
    let span = c.in-Some.span in
    let more = c.advance.new.self in
    let inv = c.loop-span.invariant in
    let parts = c.in-Some.ensures.cases ∙ sym (ap (λ ss. span ∷ ss) c.advance.ensures) in
    let head = merged_head span more (sym (ap is_merged parts) ∙ inv.rest) in
    let out = c.loop-span.out.items in
    let new = c.push_if.new.out.items in
    let step = kept_step out new c.args.source c.args.wanted span more _ head (sym (ap (list_all (all_before out)) parts) ∙ inv.before) inv.merged c.in_ok-push_if.ensures c.is_kept.ensures in
    record {
      rest = head.tail;
      merged = step.merged;
      before = step.before;
      few = few_step out new span more c.loop-span.rest c.is_kept.result _ c.in_ok-push_if.ensures parts inv.few;
      has = λ q. step.has q ∙ ap (λ ss. has out q || (has ss q && is_kept c.args.source c.args.wanted q.source)) (sym parts) ∙ inv.has q;
    }
