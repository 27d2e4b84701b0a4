use Rattle.journal.specs.Journals.{whole}
use Rattle.replica_core.specs.Slots.{seats_of}
use Rattle.replica_core.proofs.CoreLemmas.{core_stopped}
use Rattle.std.proofs.Common.{true}
use Rattle.replica_core.proofs.machine.Core.stop.Goals as goal

pub invariant_of-self : goal.invariant_of-self
invariant_of-self c =
    let core = c.self.inside in
    core_stopped core.rows.schema core.channels c.set_stopped.new.self (whole core.journal.journal) (seats_of core.seats) c.args.channel true c.self.invariant c.set_stopped.ensures
