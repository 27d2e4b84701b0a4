use Rattle.std.proofs.Common.{sym, ◌∙◌}
use Rattle.binlog_bundle.specs.Tables.{IsPlain}
use Rattle.binlog_bundle.proofs.Cutting.{passed_more, none_other}
use Rattle.binlog_bundle.proofs.tables.other_table.Goals as goal

pub loop-line-preserved : goal.loop-line-preserved
loop-line-preserved c =
    passed_more (IsPlain c.args.tables.now) c.args.log.now c.loop-line.left.now c.in-Some.line.now c.in-Some.after.now c.loop-line.invariant c.in-Some.ensures.found (c.in-Some.ensures.found.whole, sym c.in_ok-maps_other.ensures ∙ c.if-branch.false)

pub returns-clause-none : goal.returns-clause-none
returns-clause-none c = none_other c.args.tables.now c.args.log.now c.loop-line.left.now c.loop-line.invariant c.in_default.ensures.none
