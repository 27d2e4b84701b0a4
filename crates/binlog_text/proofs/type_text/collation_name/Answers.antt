use Rattle.std.proofs.Common.{◌∙◌}
use Rattle.binlog_text.proofs.CollationLaws.{not_here}
use Rattle.binlog_text.proofs.type_text.collation_name.Goals as goal

pub loop-i-preserved : goal.loop-i-preserved
loop-i-preserved c = not_here c.args.text.now c.loop-i.i c.loop-i-test.true c.in_default.ensures ∙ c.loop-i.invariant
