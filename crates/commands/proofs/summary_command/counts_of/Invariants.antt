use Rattle.std.proofs.Common.{◌≤◌, drop, length}
use Rattle.commands.specs.Tallies.{AreCounts}
use Rattle.commands.proofs.summary_command.counts_of.Given as goal

abbrev pub invariant-loop-left : goal.invariant-loop-left
invariant-loop-left l = (l.left ≤ length l.faults) × AreCounts (drop l.left l.faults) l.counts

abbrev pub decreases-loop-left : goal.decreases-loop-left
decreases-loop-left l = l.left
