use Rattle.std.proofs.Common.{◌≡◌, ◌++◌, take, drop}
use Rattle.gtid_report.specs.Assumed.{with_references}
use Rattle.gtid_report.proofs.assumed.cut_at_rows.Given as goal

abbrev pub invariant-loop-place : goal.invariant-loop-place
invariant-loop-place l = take l.place l.assumptions ++ with_references (drop l.place l.assumptions) ≡ with_references l.assumptions
