use Rattle.std.proofs.Common.{◌≡◌, suc, length}
use Rattle.std.specs.Option.{option_map_or}
use Rattle.apply_channel.specs.Channels.{settle_channel}
use Rattle.apply_channel.specs.Kept.{IsLastOpen}
use Rattle.apply_channel.proofs.channel.Channel.mark_executed.Given as goal

abbrev pub invariant-settling : goal.invariant-settling
invariant-settling l = record {
  last : IsLastOpen l.self.channel.received l.gtid (length l.self.channel.received) l.next;
  settles : settle_channel l.gtid l.self.channel ≡ settle_channel l.gtid l.initial.self.channel;
  schema : l.self.schema ≡ l.initial.self.schema;
}

abbrev pub decreases-settling : goal.decreases-settling
decreases-settling l = option_map_or suc l.next 0
