use Rattle.std.proofs.Common.{◌≡◌, take, false}
use Rattle.std.specs.Prelude.{None}
use Rattle.apply_channel.proofs.channel.Channel.copy.Given as goal

abbrev pub invariant-loop-slot : goal.invariant-loop-slot
invariant-loop-slot l = l.copy ≡ record {
  schema = l.self.schema;
  channel = record { name = l.self.channel.name; preserve = l.self.channel.preserve; stopped = false; asked = None; received = take l.slot-index l.self.channel.received };
}
