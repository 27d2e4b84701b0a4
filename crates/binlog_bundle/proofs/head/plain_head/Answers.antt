use Rattle.binlog_bundle.proofs.Heading.{head_more, head_refused}
use Rattle.binlog_bundle.proofs.head.plain_head.Goals as goal

pub loop-line-preserved : goal.loop-line-preserved
loop-line-preserved c =
    head_more c.args.grants c.args.derivation.now c.args.head.now c.loop-line.left.now c.in-Some.line.now c.in-Some.after.now c.loop-line.plain.text.items c.take_line.new.self.text.items c.loop-line.plain.passed_over c.take_line.new.self.passed_over
    c.loop-line.invariant c.in-Some.ensures.found c.in-Ok.ensures.granted c.in-Ok.ensures.text c.in-Ok.ensures.passed

pub returns-in-Err-clause-refused : goal.returns-in-Err-clause-refused
returns-in-Err-clause-refused c =
    head_refused c.args.grants c.args.derivation.now c.args.head.now c.loop-line.left.now c.in-Some.line.now c.in-Some.after.now c.loop-line.plain.text.items c.loop-line.plain.passed_over c.in-Err.fault c.loop-line.invariant c.in-Some.ensures.found c.in-Err.ensures.refused
