use Rattle.std.proofs.Common.{ap, sym, ◌∙◌, ◌∷◌, drop, length, arith}
use Rattle.std.specs.Prelude.{sum_by}
use Rattle.std.proofs.lemmas.List.Sums.{sum_by-cons}
use Rattle.gtid_set.specs.Spans.{is_merged}
use Rattle.gtid_set.specs.Sweep.{size_of}
use Rattle.gtid_set.proofs.SpanLemmas.{merged_head}
use Rattle.gtid_set.proofs.single.count_numbers.Goals as goal

pub overflow_sub-span : goal.overflow_sub-span
overflow_sub-span c = (merged_head c.in-Some.span (drop 1 c.loop-span.rest) (sym (ap is_merged c.in-Some.ensures.cases) ∙ c.loop-span.invariant.merged)).filled

pub loop-span-preserved : goal.loop-span-preserved
loop-span-preserved c =
    let span = c.in-Some.span in
    let more = c.advance.new.self in
    let inv = c.loop-span.invariant in
    let parts = c.in-Some.ensures.cases ∙ sym (ap (λ ss. span ∷ ss) c.advance.ensures) in
    let head = merged_head span more (sym (ap is_merged parts) ∙ inv.merged) in
    let filled = head.filled in
    let sums = ap (sum_by size_of) parts ∙ sum_by-cons size_of span more in
    let long = ap length parts in
    let sum = inv.sum in
    let bound = inv.bound in
    record {
      merged = head.tail;
      bound = omega (arith, long, bound);
      sum = omega (arith, long, sums, sum, filled);
    }
