use Rattle.std.proofs.Common.{ℕ, List, ◌+◌, ◌≤◌, length}
use Rattle.binlog_bundle.specs.Lines.{AreLines}
use Rattle.binlog_bundle.proofs.Heading.{IsSkipping}
use Rattle.binlog_bundle.proofs.head.place_of.Given as goal

abbrev pub invariant-loop-line : goal.invariant-loop-line
invariant-loop-line l = record {
  fits : l.skipped + length l.left ≤ length l.fn.head;
  skipping : (lines : List (List ℕ)) → AreLines lines l.fn.head → IsSkipping lines l.fn.n l.left l.skipped l.due;
}

abbrev pub decreases-loop-line : goal.decreases-loop-line
decreases-loop-line l = length l.left
