use Rattle.std.proofs.Common.{◌≡◌, take}
use Rattle.logical_timestamps.specs.Writers.{writers_after}
use Rattle.logical_timestamps.proofs.writers.LastWriters.after.Given as goal

abbrev pub invariant-loop-place : goal.invariant-loop-place
invariant-loop-place l = l.writers ≡ writers_after l.schema (take l.place l.entries)
