use Rattle.std.proofs.Common.{◌≡◌, ◌++◌, option_map, drop}
use Rattle.binlog_rows.specs.Columns.{columns_from}
use Rattle.binlog_rows.proofs.columns.columns_from.Given as goal

abbrev pub invariant-loop-kind : goal.invariant-loop-kind
invariant-loop-kind l =
    option_map (λ columns. l.columns.items ++ columns) (columns_from (drop l.kind-index l.kinds) l.rest)
    ≡ columns_from l.kinds l.metadata
