use Rattle.std.proofs.Common.{◌∙◌, arith}
use Rattle.binlog_rows.proofs.ReadWalks.{read_none, read_on, read_all}
use Rattle.binlog_rows.proofs.reading.read_values.Goals as goal

pub returns-in_default : goal.returns-in_default
returns-in_default c =
    read_none c.args.nulls.now c.loop-i.i c.args.columns.now _ c.loop-i.values.items c.read_value.new.values.items c.loop-i.rest.now (omega arith)
    (rw c.in_default.is at c.in_ok-behind.ensures)
    ∙ c.loop-i.invariant

pub loop-i-preserved : goal.loop-i-preserved
loop-i-preserved c =
    read_on c.args.nulls.now c.loop-i.i c.args.columns.now _ c.loop-i.values.items c.read_value.new.values.items c.loop-i.rest.now
    c.in-Some.behind.now (omega arith) (rw c.in-Some.is at c.in_ok-behind.ensures)
    ∙ c.loop-i.invariant

pub returns : goal.returns
returns c = read_all c.args.nulls.now c.loop-i.i c.args.columns.now c.loop-i.values.items c.loop-i.rest.now (omega arith) ∙ c.loop-i.invariant
