use Rattle.std.proofs.Common.{map, take}
use Rattle.binlog_files.specs.Given.{sets}
use Rattle.binlog_files.specs.Whole.{HaveFiles}
use Rattle.binlog_files.proofs.whole.take_files.Given as goal

abbrev pub invariant-loop-place : goal.invariant-loop-place
invariant-loop-place l = HaveFiles (sets l.given) (map (λ v. v.items) (take l.place l.files)) l.log l.is_unchecked
