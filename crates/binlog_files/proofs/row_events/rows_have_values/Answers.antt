use Rattle.std.proofs.Common.{sym, ◌∙◌}
use Rattle.binlog_rows.specs.Reading.{row_view}
use Rattle.binlog_files.specs.Rows.{row_has_values}
use Rattle.binlog_files.proofs.Telling.{all_mapped}
use Rattle.binlog_files.proofs.row_events.rows_have_values.Goals as goal

pub returns : goal.returns
returns c = c.have_values.ensures ∙ sym (all_mapped row_has_values row_view c.args.rows.now)
