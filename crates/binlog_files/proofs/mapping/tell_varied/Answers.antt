use Rattle.std.proofs.Common.{◌+◌, drop, get_or, None, sym, ◌∙◌}
use Rattle.binlog_rows.specs.declared.comparisons.VariedPlace.{VariedPlace}
use Rattle.log_transactions.specs.Events.{Varies}
use Rattle.log_transactions.specs.States.{state}
use Rattle.binlog_files.specs.Told.{varies}
use Rattle.binlog_files.proofs.Telling.{told_first, left_varied, err_told}
use Rattle.binlog_files.proofs.mapping.tell_varied.Goals as goal

-- what stands for a column that isn't there
abbrev no_place : VariedPlace
no_place = record { place = 0; collation = None }

pub loop-column-preserved : goal.loop-column-preserved
loop-column-preserved c =
    let i = c.loop-column.column-index in
    let table = c.args.table.now in
    let columns = c.args.varied.now in
    let column = get_or columns i no_place in
    sym (told_first (state c.loop-column.log) (state c.tell_column.new.log) (Varies table column.place column.collation) (varies table (drop (i + 1) columns)) c.in-Ok.ensures)
    ∙ sym (left_varied (state c.loop-column.log) table columns i no_place c.loop-column-test.true)
    ∙ c.loop-column.invariant

pub returns-in-Err : goal.returns-in-Err
returns-in-Err c =
    let i = c.loop-column.column-index in
    let table = c.args.table.now in
    let columns = c.args.varied.now in
    let column = get_or columns i no_place in
    err_told c.in-Err.fault (state c.loop-column.log) (state c.args.log.now) (state c.tell_column.new.log) (Varies table column.place column.collation)
    (varies table (drop (i + 1) columns)) (varies table columns)
    (sym (left_varied (state c.loop-column.log) table columns i no_place c.loop-column-test.true) ∙ c.loop-column.invariant) c.in-Err.ensures
