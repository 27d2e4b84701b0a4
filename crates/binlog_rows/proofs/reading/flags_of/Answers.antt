use Rattle.std.proofs.Common.{◌∙◌}
use Rattle.binlog_rows.proofs.ReadWalks.{flags_none, flags_on}
use Rattle.binlog_rows.proofs.reading.flags_of.Goals as goal

pub loop-i-init : goal.loop-i-init
loop-i-init c = c.in_ok-flags.ensures.items ∙ flags_none c.args.bits.now

pub loop-i-preserved : goal.loop-i-preserved
loop-i-preserved c =
    flags_on c.args.bits.now c.loop-i.i c.is_set.result c.loop-i.flags.items c.push.new.self.items c.in_ok-push.ensures.items
    c.is_set.ensures c.loop-i.invariant
