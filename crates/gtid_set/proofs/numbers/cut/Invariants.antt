use Rattle.std.proofs.Common.{length, ◌≡◌, ◌≤◌, true, not, ◌&&◌, ◌||◌}
use Rattle.gtid_text.specs.declared.Gtid.{Gtid}
use Rattle.gtid_text.specs.declared.Span.{Span}
use Rattle.gtid_set.specs.Numbers.{numbered, all_numbered}
use Rattle.gtid_set.specs.Spans.{is_before, is_merged, has}
use Rattle.gtid_set.specs.Sweep.{all_before, all_reach, within}
use Rattle.gtid_set.proofs.numbers.cut.Given as goal

abbrev pub invariant-loop-hole : goal.invariant-loop-hole
invariant-loop-hole l = record {
  rest : is_merged (all_numbered l.rest) ≡ true;
  reach : all_reach (numbered l.left) (all_numbered l.rest) ≡ true;
  hi : l.left.hi ≡ l.numbers.hi;
  filled : l.left.lo ≤ l.left.hi;
  merged : is_merged (all_numbered l.out.items) ≡ true;
  before : all_before (all_numbered l.out.items) (numbered l.left) ≡ true;
  later : (u : Span) → is_before (numbered l.numbers) u ≡ true → all_before (all_numbered l.fn.out.items) u ≡ true → all_before (all_numbered l.out.items) u ≡ true;
  has : (q : Gtid) → (has (all_numbered l.out.items) q || (within (numbered l.left) q && not (has (all_numbered l.rest) q))) ≡ (has (all_numbered l.fn.out.items) q || (within (numbered l.numbers) q && not (has (all_numbered l.holes) q)));
}

abbrev pub decreases-loop-hole : goal.decreases-loop-hole
decreases-loop-hole l = length l.rest
