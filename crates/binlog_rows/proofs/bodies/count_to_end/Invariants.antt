use Rattle.std.proofs.Common.{◌≡◌, ◌+◌, ◌-◌, length, option_map}
use Rattle.binlog_rows.specs.Rows.{rows_from}
use Rattle.binlog_rows.proofs.bodies.count_to_end.Given as goal

abbrev pub invariant-loop-count : goal.invariant-loop-count
invariant-loop-count l =
    option_map (λ rows. length rows + l.count) (rows_from (length l.bytes - l.count) l.first l.second l.rest)
    ≡ option_map length (rows_from (length l.bytes) l.first l.second l.bytes)
