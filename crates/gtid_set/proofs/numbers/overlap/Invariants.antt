use Rattle.std.proofs.Common.{length, ◌≡◌, true, ◌&&◌, ◌||◌}
use Rattle.gtid_text.specs.declared.Gtid.{Gtid}
use Rattle.gtid_text.specs.declared.Span.{Span}
use Rattle.gtid_set.specs.Numbers.{numbered, all_numbered}
use Rattle.gtid_set.specs.Spans.{is_before, is_merged, has}
use Rattle.gtid_set.specs.Sweep.{all_before, all_reach, within, all_before_common}
use Rattle.gtid_set.proofs.numbers.overlap.Given as goal

abbrev pub invariant-loop-other : goal.invariant-loop-other
invariant-loop-other l = record {
  rest : is_merged (all_numbered l.rest) ≡ true;
  reach : all_reach (numbered l.numbers) (all_numbered l.rest) ≡ true;
  merged : is_merged (all_numbered l.out.items) ≡ true;
  before : all_before_common (all_numbered l.out.items) (numbered l.numbers) (all_numbered l.rest) ≡ true;
  later : (u : Span) → is_before (numbered l.numbers) u ≡ true → all_before (all_numbered l.fn.out.items) u ≡ true → all_before (all_numbered l.out.items) u ≡ true;
  has : (q : Gtid) → (has (all_numbered l.out.items) q || (within (numbered l.numbers) q && has (all_numbered l.rest) q)) ≡ (has (all_numbered l.fn.out.items) q || (within (numbered l.numbers) q && has (all_numbered l.others) q));
}

abbrev pub decreases-loop-other : goal.decreases-loop-other
decreases-loop-other l = length l.rest
