use Rattle.std.proofs.Common.{ℕ, ◌<◌}
use Rattle.binlog_bundle.specs.Executed.{IsWithinAt}
use Rattle.binlog_bundle.proofs.executed.first_lack.Given as goal

abbrev pub invariant-loop-place : goal.invariant-loop-place
invariant-loop-place l = (k : ℕ) → k < l.place → IsWithinAt l.fn.bundle l.fn.said k
