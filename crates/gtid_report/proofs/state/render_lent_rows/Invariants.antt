use Rattle.std.proofs.Common.{◌≡◌, Some, ◌++◌, drop, string_bytes}
use Rattle.std.specs.Prelude.{IfSome}
use Rattle.rows.specs.Keys.{find_table}
use Rattle.rows.specs.Listing.{all_shown, rows_of}
use Rattle.gtid_report.specs.State.{rows_text}
use Rattle.gtid_report.proofs.state.render_lent_rows.Given as goal

abbrev pub invariant-loop-key : goal.invariant-loop-key
invariant-loop-key l = (string_bytes l.out ++ rows_text l.schema (rows_of (all_shown (drop l.key-index l.list))) ≡ string_bytes l.fn.out ++ rows_text l.schema (rows_of (all_shown l.list))) × IfSome l.last (λ t. find_table t.now.name l.schema ≡ Some t.now)
