use Rattle.std.proofs.Common.{◌<◌, length, arith}
use Rattle.std.proofs.lemmas.List.Edits.{map_over_more}
use Rattle.replica_core.specs.Keyed.{keyed_settled}
use Rattle.replica_core.proofs.channels.settle_each.Goals as goal

pub loop-channel-preserved : goal.loop-channel-preserved
loop-channel-preserved c =
    let below : c.loop-channel.channel-index < length c.args.channels.now = omega arith in
    rw (c.mark_executed.ensures, ← c.channel-item.is) (map_over_more (keyed_settled c.args.gtid.now) c.args.channels.now c.loop-channel.channels c.loop-channel.channel-index c.channel-item.result below c.loop-channel.invariant c.channel-item.is)
