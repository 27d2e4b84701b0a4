use Rattle.std.proofs.Common.{refl, sym, ◌∙◌}
use Rattle.binlog_bundle.specs.Lines.{IsOther}
use Rattle.binlog_bundle.proofs.Cutting.{passed_more, cut_here, cut_nowhere}
use Rattle.binlog_bundle.proofs.lines.cut_own.Goals as goal

pub returns-then-is_own : goal.returns-then-is_own
returns-then-is_own c =
    cut_here c.args.text.now c.loop-line.left.now c.in-Some.line.now c.in-Some.after.now _ _ _ c.loop-line.invariant c.in-Some.ensures.found (sym c.is_own.ensures ∙ c.if-is_own.true) refl c.split_before.ensures

pub loop-line-preserved : goal.loop-line-preserved
loop-line-preserved c =
    passed_more IsOther c.args.text.now c.loop-line.left.now c.in-Some.line.now c.in-Some.after.now c.loop-line.invariant c.in-Some.ensures.found (c.in-Some.ensures.found.whole, sym c.is_own.ensures ∙ c.if-is_own.false)

pub returns : goal.returns
returns c = cut_nowhere c.args.text.now c.loop-line.left.now _ _ _ c.loop-line.invariant c.in_default.ensures.none refl c.split_before-2.ensures
