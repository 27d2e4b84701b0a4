use Rattle.std.proofs.Common.{length, ◌≡◌, ◌+◌, ◌≤◌, ◌<◌, true, ◌++◌, []}
use Rattle.std.specs.FinSet as set
use Rattle.gtid_set.specs.Sweep.{is_sorted, sources_in}
use Rattle.gtid_set.proofs.SourceLemmas.{besides, all_from}
use Rattle.gtid_set.proofs.sweep.count_sources_of.Given as goal

abbrev pub invariant-loop-span : goal.invariant-loop-span
invariant-loop-span l = record {
  rest : is_sorted l.rest ≡ true;
  from : all_from l.last l.rest ≡ true;
  short : length l.spans < 18446744073709551616;
  bound : l.count + length l.rest ≤ length l.spans;
  count : l.count + set.len (besides l.last (sources_in (l.rest ++ []))) ≡ set.len (sources_in (l.spans ++ []));
}

abbrev pub decreases-loop-span : goal.decreases-loop-span
decreases-loop-span l = length l.rest
