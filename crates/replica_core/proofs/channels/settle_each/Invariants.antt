use Rattle.std.proofs.Common.{◌≡◌, ◌++◌, map, take, drop}
use Rattle.replica_core.specs.Keyed.{keyed_settled}
use Rattle.replica_core.proofs.channels.settle_each.Given as goal

abbrev pub invariant-loop-channel : goal.invariant-loop-channel
invariant-loop-channel l = l.channels ≡ map (keyed_settled l.gtid) (take l.channel-index l.initial.channels) ++ drop l.channel-index l.initial.channels
