use Rattle.std.proofs.Common.{◌≡◌, option_map, drop}
use Rattle.binlog_rows.specs.Images.{values_from}
use Rattle.binlog_rows.proofs.images.behind_values.Given as goal

abbrev pub invariant-loop-i : goal.invariant-loop-i
invariant-loop-i l =
    option_map (λ p. p.1) (values_from l.nulls l.i (drop l.i l.columns) l.rest)
    ≡ option_map (λ p. p.1) (values_from l.nulls 0 l.columns l.bytes)
