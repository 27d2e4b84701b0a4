use Rattle.std.proofs.Common.{length}
use Rattle.binlog_bundle.specs.Logs.{terms_of}
use Rattle.binlog_bundle.specs.Channels.{HasCome}
use Rattle.binlog_bundle.proofs.channels.take_channels.Given as goal

abbrev pub invariant-loop-line : goal.invariant-loop-line
invariant-loop-line g l = HasCome (terms_of l.fn.grants (g.L.Logs.origin l.fn.logs)) l.fn.start l.fn.text l.left l.progress

abbrev pub decreases-loop-line : goal.decreases-loop-line
decreases-loop-line g l = length l.left
