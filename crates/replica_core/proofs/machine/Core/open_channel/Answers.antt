use Rattle.journal.specs.Journals.{whole}
use Rattle.replica_core.specs.Slots.{seats_of}
use Rattle.replica_core.proofs.CoreLemmas.{core_pushed}
use Rattle.replica_core.proofs.machine.Core.open_channel.Goals as goal

pub invariant_of-self : goal.invariant_of-self
invariant_of-self c =
    let core = c.self.inside in
    core_pushed core.rows.schema core.channels c.push.new.self (whole core.journal.journal) (seats_of core.seats) c.args.name.now c.args.preserve c.self.invariant c.in-Ok.ensures.ok
