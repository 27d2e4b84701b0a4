use Rattle.std.proofs.Common.{false, ap, ◌∙◌, arith, length}
use Rattle.journal.specs.Journals.{whole}
use Rattle.replica_core.specs.State.{Replica}
use Rattle.replica_core.specs.Machine.{restart}
use Rattle.replica_core.specs.Kept.{ChannelsValue}
use Rattle.replica_core.specs.Slots.{seats_of}
use Rattle.replica_core.proofs.CoreLemmas.{replica_of, core_stopped, restarted, not_restarted}
use Rattle.replica_core.proofs.machine.Core.restart.Goals as goal

pub invariant_of-self : goal.invariant_of-self
invariant_of-self c =
    let core = c.self.inside in
    core_stopped core.rows.schema core.channels c.set_stopped.new.self (whole core.journal.journal) (seats_of core.seats) c.args.channel false c.self.invariant c.set_stopped.ensures

pub returns-then-channel-len-clause-made : goal.returns-then-channel-len-clause-made
returns-then-channel-len-clause-made c =
    let core = c.self.inside in
    let v = replica_of core.own core.rows (seats_of core.seats) core.channels.list core.journal.journal in
    restarted v.state c.args.channel c.set_stopped.new.self.list (ap (λ (x : ChannelsValue). x.list) c.set_stopped.ensures) (omega (arith, c.if-channel-len.true, c.len.ensures))
    ∙ ap (λ (r : Replica). restart c.args.channel r.state) c.self.view_is

pub returns-clause-made : goal.returns-clause-made
returns-clause-made c =
    let same = ap (λ (r : Replica). length r.state.channels) c.self.view_is in
    not_restarted c.args.self.now.state c.args.channel (omega (arith, same, c.if-channel-len.false, c.len.ensures))
