use Rattle.std.proofs.Common.{◌+◌, map, drop, sym, ◌∙◌}
use Rattle.log_transactions.specs.Events.{Row}
use Rattle.log_transactions.specs.States.{state}
use Rattle.binlog_rows.specs.Reading.{row_view}
use Rattle.binlog_files.specs.Rows.{change_of, row_events}
use Rattle.binlog_files.proofs.Telling.{told_first, left_told, err_told}
use Rattle.binlog_files.proofs.row_events.take_rows.Goals as goal

pub returns-in-Err : goal.returns-in-Err
returns-in-Err c =
    let i = c.loop-row.row-index in
    let row = c.row-item.result in
    err_told c.in-Err.fault (state c.loop-row.log) (state c.args.log.now) (state c.take_row.new.log) (Row (change_of c.args.kind c.args.table.now (row_view row)))
    (row_events c.args.kind c.args.table.now (map row_view (drop (i + 1) c.args.rows.now))) (row_events c.args.kind c.args.table.now (map row_view c.args.rows.now))
    (sym (left_told (state c.loop-row.log) c.args.kind c.args.table.now c.args.rows.now i row c.loop-row-test.true c.row-item.is) ∙ c.loop-row.invariant) c.in-Err.ensures

pub loop-row-preserved : goal.loop-row-preserved
loop-row-preserved c =
    let i = c.loop-row.row-index in
    let row = c.row-item.result in
    sym (told_first (state c.loop-row.log) (state c.take_row.new.log) (Row (change_of c.args.kind c.args.table.now (row_view row)))
    (row_events c.args.kind c.args.table.now (map row_view (drop (i + 1) c.args.rows.now))) c.in-Ok.ensures)
    ∙ sym (left_told (state c.loop-row.log) c.args.kind c.args.table.now c.args.rows.now i row c.loop-row-test.true c.row-item.is)
    ∙ c.loop-row.invariant
