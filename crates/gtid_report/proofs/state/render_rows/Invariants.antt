use Rattle.std.proofs.Common.{◌≡◌, Some, ◌++◌, take, string_bytes}
use Rattle.std.specs.Prelude.{IfSome}
use Rattle.rows.specs.Keys.{find_table}
use Rattle.gtid_report.specs.State.{rows_text}
use Rattle.gtid_report.proofs.state.render_rows.Given as goal

abbrev pub invariant-loop-row : goal.invariant-loop-row
invariant-loop-row l = (string_bytes l.out ≡ string_bytes l.fn.out ++ rows_text l.schema (take l.row-index l.rows)) × IfSome l.last (λ t. find_table t.now.name l.schema ≡ Some t.now)
