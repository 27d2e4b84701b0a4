use Rattle.std.proofs.Common.{◌∙◌, arith}
use Rattle.binlog_rows.specs.Reading.{row_view}
use Rattle.binlog_events.specs.RowLines.{row_line}
use Rattle.binlog_events.proofs.RowTexts.{texts_next, texts_end}
use Rattle.binlog_events.proofs.row_lines.put_rows.Goals as goal

pub loop-row-preserved : goal.loop-row-preserved
loop-row-preserved c =
    texts_next (row_line c.args.kind c.args.name.now c.args.read.now.first.items c.args.read.now.second.items) row_view c.args.rows.now
    c.loop-row.row-index c.row-item.result c.loop-row.out.items c.put_row.new.out.items (omega arith) c.row-item.is c.in_ok-put_row.ensures
    ∙ c.loop-row.invariant

pub returns : goal.returns
returns c =
    texts_end (row_line c.args.kind c.args.name.now c.args.read.now.first.items c.args.read.now.second.items) row_view c.args.rows.now
    c.loop-row.row-index c.loop-row.out.items (omega arith)
    ∙ c.loop-row.invariant
