use Rattle.std.proofs.Common.{◌≡◌, ◌+◌, ℕ, false, ◌++◌, ◌≤◌, ap, sym, ◌∙◌, arith}
use Rattle.std.specs.FinSet as set
use Rattle.std.specs.Prelude.{nat_lt}
use Rattle.std.proofs.lemmas.Bool.Decides.{nat_tests}
use Rattle.gtid_set.specs.Sets.{source_count, most_sources}
use Rattle.gtid_set.specs.Spans.{set_of}
use Rattle.gtid_set.specs.Sweep.{is_sorted, sources_in}
use Rattle.gtid_set.proofs.SpanLemmas.{merged_rises}
use Rattle.gtid_set.proofs.SetSources.{counted_both, fewer_both}
use Rattle.gtid_set.proofs.have_many_sources.Goals as goal

pub count_sources-requires-clause-left : goal.count_sources-requires-clause-left
count_sources-requires-clause-left c = ap is_sorted c.cursor.ensures ∙ merged_rises c.args.left.now c.is_kept.ensures.merged

pub count_sources-requires-clause-right : goal.count_sources-requires-clause-right
count_sources-requires-clause-right c = ap is_sorted c.cursor-then-sources-gt-MOST_SOURCES.ensures ∙ merged_rises c.args.right.now c.is_kept-2.ensures.merged

pub returns-then-sources-gt-MOST_SOURCES : goal.returns-then-sources-gt-MOST_SOURCES
returns-then-sources-gt-MOST_SOURCES c =
    ap (nat_lt most_sources) (c.count_sources.ensures ∙ (λ i. set.len (sources_in (c.cursor.ensures i ++ c.cursor-then-sources-gt-MOST_SOURCES.ensures i))) ∙ counted_both c.args.left.now c.args.right.now c.is_kept.ensures.merged c.is_kept-2.ensures.merged)

pub returns-else-sources-gt-MOST_SOURCES : goal.returns-else-sources-gt-MOST_SOURCES
returns-else-sources-gt-MOST_SOURCES c =
    let few = fewer_both c.args.left.now c.args.right.now c.is_kept.ensures.merged c.is_kept-2.ensures.merged in
    let l = c.sources.ensures in
    let r = c.sources-2.ensures in
    let most = c.if-sources-gt-MOST_SOURCES.false in
    is_small (c.sources.result + c.sources-2.result) most ∙ sym (is_small (source_count (set.union (set_of c.args.left.now) (set_of c.args.right.now))) (omega (arith, few, l, r, most)))
  where
    is_small : (n : ℕ) → n ≤ most_sources → nat_lt most_sources n ≡ false
    is_small n le = grind (arith, nat_tests)
