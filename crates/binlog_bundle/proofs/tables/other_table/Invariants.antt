use Rattle.std.proofs.Common.{length}
use Rattle.binlog_bundle.specs.Tables.{IsPlain}
use Rattle.binlog_bundle.proofs.Cutting.{HasPassed}
use Rattle.binlog_bundle.proofs.tables.other_table.Given as goal

abbrev pub invariant-loop-line : goal.invariant-loop-line
invariant-loop-line l = HasPassed (IsPlain l.tables) l.log l.left

abbrev pub decreases-loop-line : goal.decreases-loop-line
decreases-loop-line l = length l.left
