use Rattle.std.proofs.Common.{◌≡◌, drop}
use Rattle.binlog_bundle.specs.Others.{first_other}
use Rattle.binlog_bundle.proofs.weighed.first_other.Given as goal

abbrev pub invariant-loop-column : goal.invariant-loop-column
invariant-loop-column l = first_other (drop l.column-index l.columns) l.varied ≡ first_other l.fn.columns l.fn.varied
