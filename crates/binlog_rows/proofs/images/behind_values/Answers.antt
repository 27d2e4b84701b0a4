use Rattle.std.proofs.Common.{◌∙◌, arith}
use Rattle.binlog_rows.proofs.Walks.{values_end, values_on, values_all}
use Rattle.binlog_rows.proofs.images.behind_values.Goals as goal

pub returns-in_default : goal.returns-in_default
returns-in_default c =
    values_end c.args.nulls.now c.loop-i.i c.args.columns.now _ c.loop-i.rest.now (omega arith) c.in_default.ensures
    ∙ c.loop-i.invariant

pub loop-i-preserved : goal.loop-i-preserved
loop-i-preserved c =
    values_on c.args.nulls.now c.loop-i.i c.args.columns.now _ c.loop-i.rest.now c.in-Some.behind.now (omega arith) c.in-Some.ensures
    ∙ c.loop-i.invariant

pub returns : goal.returns
returns c =
    values_all c.args.nulls.now c.loop-i.i c.args.columns.now c.loop-i.rest.now (omega arith)
    ∙ c.loop-i.invariant
