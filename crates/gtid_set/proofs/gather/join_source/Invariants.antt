use Rattle.std.proofs.Common.{length}
use Rattle.gtid_set.proofs.GatherLemmas.{IsJoining}
use Rattle.gtid_set.proofs.gather.join_source.Given as goal

abbrev pub invariant-loop-span : goal.invariant-loop-span
invariant-loop-span l = IsJoining l.spans l.id l.run.items l.rest

abbrev pub decreases-loop-span : goal.decreases-loop-span
decreases-loop-span l = length l.rest
