use Rattle.std.proofs.Common.{◌≡◌, ◌+◌, List, ◌∷◌, drop, refl, ap, ◌∙◌, sym}
use Rattle.std.specs.FinSet as set
use Rattle.gtid_text.specs.declared.Span.{Span}
use Rattle.gtid_set.specs.Sets.{Gtids}
use Rattle.gtid_set.specs.Spans.{set_of}
use Rattle.std.proofs.lemmas.List.{at_drop_more, at_drop_all}
use Rattle.log_transactions.proofs.JoinLaws.{itself_kept, next_joined, next_kept, part_joined, all_joined}
use Rattle.log_transactions.proofs.joined.add_all.Goals as goal

pub loop-span-init : goal.loop-span-init
loop-span-init c = record {
  so_far = refl;
  kept = itself_kept c.args.whole.now;
}

pub returns-in_default-clause-part : goal.returns-in_default-clause-part
returns-in_default-clause-part c =
    ap (λ (s : Gtids). set.union s (set_of c.args.spans.now)) c.in_default.ensures.err
    ∙ part_joined c.args.whole.now c.loop-span.whole _ (set_of c.args.spans.now) c.loop-span.invariant.so_far c.loop-span.invariant.kept

pub loop-span-preserved : goal.loop-span-preserved
loop-span-preserved c =
    let whole = c.loop-span.whole in
    let spans = c.args.spans.now in
    let i = c.loop-span.span-index in
    let span = c.span-item.result in
    let left : set.union whole (set_of (span ∷ drop (i + 1) spans)) ≡ set.union c.args.whole.now (set_of spans) =
    ap (λ (s : Span). set.union whole (set_of (s ∷ drop (i + 1) spans))) c.span-item.is
    ∙ sym (at_drop_more (λ (ss : List Span). set.union whole (set_of ss)) spans i span c.loop-span-test.true)
    ∙ c.loop-span.invariant.so_far in
    record {
      so_far = next_joined whole _ _ span (drop (i + 1) spans) left c.in-Ok.ensures.ok;
      kept = next_kept c.args.whole.now whole _ _ c.loop-span.invariant.kept c.in-Ok.ensures.ok;
    }

pub returns-clause-all : goal.returns-clause-all
returns-clause-all c = λ _.
    all_joined c.args.whole.now c.loop-span.whole (set_of c.args.spans.now)
    (sym (at_drop_all (λ (ss : List Span). set.union c.loop-span.whole (set_of ss)) c.args.spans.now c.loop-span.span-index c.loop-span-test.false) ∙ c.loop-span.invariant.so_far)

pub returns-clause-part : goal.returns-clause-part
returns-clause-part c = part_joined c.args.whole.now c.loop-span.whole _ (set_of c.args.spans.now) c.loop-span.invariant.so_far c.loop-span.invariant.kept
