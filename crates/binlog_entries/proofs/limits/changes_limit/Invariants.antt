use Rattle.std.proofs.Common.{◌≡◌, drop}
use Rattle.binlog_entries.specs.Limits.{changes_limit}
use Rattle.binlog_entries.proofs.limits.changes_limit.Given as goal

abbrev pub invariant-loop-change : goal.invariant-loop-change
invariant-loop-change l = changes_limit (drop l.change-index l.changes) ≡ changes_limit l.fn.changes
