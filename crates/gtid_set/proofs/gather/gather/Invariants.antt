use Rattle.std.proofs.Common.{length, ◌≡◌, true, []}
use Rattle.gtid_set.specs.declared.combine.Operation.TheVariants.{Union}
use Rattle.gtid_set.specs.Spans.{set_of}
use Rattle.gtid_set.specs.Sweep.{is_sorted}
use Rattle.gtid_set.proofs.CombineLemmas.{IsMaking}
use Rattle.gtid_set.proofs.gather.gather.Given as goal

abbrev pub invariant-loop-first : goal.invariant-loop-first
invariant-loop-first l = record {
  rising : is_sorted l.rest ≡ true;
  making : IsMaking Union (set_of l.spans) l.kept l.rest [];
}

abbrev pub decreases-loop-first : goal.decreases-loop-first
decreases-loop-first l = length l.rest
