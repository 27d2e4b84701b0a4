use Rattle.std.proofs.Common.{◌≡◌, ◌≤◌, ◌++◌, option_map, drop}
use Rattle.binlog_rows.specs.Collations.{varied_from}
use Rattle.binlog_rows.proofs.comparisons.varied_from.Given as goal

abbrev pub invariant-loop-place : goal.invariant-loop-place
invariant-loop-place l =
    record {
      within : l.index ≤ l.place;
      varied :
          option_map (λ places. l.places.items ++ places) (varied_from l.default l.index l.place (drop l.place l.columns) l.rest)
          ≡ varied_from l.default 0 0 l.columns l.bytes;
    }
