use Rattle.binlog_bundle.proofs.Heading.{names_more, names_all}
use Rattle.binlog_bundle.proofs.collate_lines.collated_columns.Goals as goal

pub loop-line-preserved : goal.loop-line-preserved
loop-line-preserved c lines are =
    names_more lines c.loop-line.left.now c.in-Some.line.now c.in-Some.after.now c.loop-line.columns.items c.add_column.new.columns.items
    (c.loop-line.invariant lines are) c.in-Some.ensures.found c.in_ok-add_column.ensures

pub returns : goal.returns
returns c lines are = names_all lines c.loop-line.left.now c.loop-line.columns.items (c.loop-line.invariant lines are) c.in_default.ensures.none
