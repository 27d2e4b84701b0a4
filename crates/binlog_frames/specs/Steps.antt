-- The step over an event.
use Rattle.std.specs.Prelude.{◌≡◌, ℕ, ◌≤◌, List, length, drop}
use Rattle.binlog_frames.specs.declared.reader.Passing.{Passing}
use Rattle.binlog_frames.specs.Standing.{Standing}

-- a step over so many bytes leads there
pub record IsStep (step : Passing) (left : List ℕ) (to : Standing) : Type 0 where
  pub stage : to.stage ≡ step.stage
  pub offset : to.offset ≡ step.offset
  pub left_is : to.left ≡ drop step.len left
  pub within : step.len ≤ length left
