use Rattle.std.proofs.Common.{length, ◌+◌, ◌≤◌, ◌≡◌, true, ◌&&◌, ◌||◌}
use Rattle.std.specs.List.{list_all}
use Rattle.gtid_text.specs.declared.Gtid.{Gtid}
use Rattle.gtid_set.specs.Spans.{is_merged, has}
use Rattle.gtid_set.specs.Sweep.{all_before, is_kept}
use Rattle.gtid_set.proofs.single.of_source.Given as goal

abbrev pub invariant-loop-span : goal.invariant-loop-span
invariant-loop-span l = record {
  rest : is_merged l.rest ≡ true;
  merged : is_merged l.out.items ≡ true;
  before : list_all (all_before l.out.items) l.rest ≡ true;
  few : length l.out.items + length l.rest ≤ length l.fn.spans;
  has : (q : Gtid) → (has l.out.items q || (has l.rest q && is_kept l.source l.wanted q.source)) ≡ (has l.fn.spans q && is_kept l.source l.wanted q.source);
}

abbrev pub decreases-loop-span : goal.decreases-loop-span
decreases-loop-span l = length l.rest
