use Rattle.std.proofs.Common.{◌≡◌, ◌++◌, take, drop}
use Rattle.logical_timestamps.specs.Timestamps.{each_last_committed, last_committed_of}
use Rattle.logical_timestamps.specs.Writers.{writers_after}
use Rattle.logical_timestamps.proofs.writers.last_committed_of.Given as goal

abbrev pub invariant-loop-place : goal.invariant-loop-place
invariant-loop-place l = record {
  writers : l.writers ≡ writers_after l.schema (take l.place l.entries);
  numbers : l.numbers.items ++ each_last_committed l.schema (take l.place l.entries) (drop l.place l.entries) ≡ last_committed_of l.schema l.entries;
}
