use Rattle.std.proofs.Common.{ℕ, List, length}
use Rattle.binlog_bundle.specs.Lines.{AreLines}
use Rattle.binlog_bundle.proofs.Heading.{IsNaming}
use Rattle.binlog_bundle.proofs.collate_lines.collated_columns.Given as goal

abbrev pub invariant-loop-line : goal.invariant-loop-line
invariant-loop-line l = (lines : List (List ℕ)) → AreLines lines l.fn.head → IsNaming lines l.left l.columns.items

abbrev pub decreases-loop-line : goal.decreases-loop-line
decreases-loop-line l = length l.left
