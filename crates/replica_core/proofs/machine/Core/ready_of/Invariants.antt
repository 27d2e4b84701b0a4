use Rattle.std.proofs.Common.{◌≡◌, ◌-◌, length}
use Rattle.replica_core.specs.Machine.{ready_from}
use Rattle.replica_core.proofs.machine.Core.ready_of.Given as goal

abbrev pub invariant-looking : goal.invariant-looking
invariant-looking l = ready_from l.self.site.schema l.self.state l.channel.channel l.from ≡ ready_from l.self.site.schema l.self.state l.channel.channel l.initial.from

abbrev pub decreases-looking : goal.decreases-looking
decreases-looking l = length l.channel.channel.received - l.from
