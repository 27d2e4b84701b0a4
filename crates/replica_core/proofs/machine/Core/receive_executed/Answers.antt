use Rattle.std.proofs.Common.{◌≡◌, true, ap, sym, subst, ◌∙◌}
use Rattle.std.specs.FinSet as set
use Rattle.rows.specs.Fits.{Fits}
use Rattle.journal.specs.Journals.{whole}
use Rattle.apply_channel.specs.Channels.{with_received, received_as}
use Rattle.replica_core.specs.State.{Replica}
use Rattle.replica_core.specs.Kept.{ChannelsValue}
use Rattle.replica_core.specs.Keyed.{with_channels}
use Rattle.replica_core.specs.AtOnce.{IsReceiving}
use Rattle.replica_core.specs.Slots.{seats_of}
use Rattle.replica_core.specs.Machine.{receive, change_at}
use Rattle.replica_core.proofs.CoreLemmas.{replica_of}
use Rattle.replica_core.proofs.ReceiveLemmas.{received_is, core_received, was_asked, len_is}
use Rattle.replica_core.proofs.machine.Core.receive_executed.Goals as goal

pub invariant_of-self : goal.invariant_of-self
invariant_of-self c =
    let core = c.self.inside in
    let e = c.args.entry.now in
    let executed = subst (λ (r : Replica). set.contains r.state.executed e.gtid ≡ true) (sym c.self.view_is) c.requires.executed in
    let put = c.in-Ok.ensures.put ∙ ap (λ b. with_channels (change_at c.args.channel (with_received (received_as b e)) core.channels.list) core.channels) (sym executed) in
    let fits = subst (λ (r : Replica). Fits r.site.schema e.txn) (sym c.self.view_is) c.requires.fits in
    core_received core.rows.schema core.channels c.receive.new.self (whole core.journal.journal) (seats_of core.seats) c.args.channel e c.self.invariant fits c.requires.number put

pub returns-in-Ok-clause-ok : goal.returns-in-Ok-clause-ok
returns-in-Ok-clause-ok c =
    let core = c.self.inside in
    let n = c.args.channel in
    let e = c.args.entry.now in
    let v = replica_of core.own core.rows (seats_of core.seats) core.channels.list core.journal.journal in
    let ready = subst (λ (r : Replica). IsReceiving r n) (sym c.self.view_is) c.requires.receives in
    let executed = subst (λ (r : Replica). set.contains r.state.executed e.gtid ≡ true) (sym c.self.view_is) c.requires.executed in
    let list = ap (λ (w : ChannelsValue). w.list) c.in-Ok.ensures.put ∙ ap (λ b. change_at n (with_received (received_as b e)) core.channels.list) (sym executed) in
    let fits = subst (λ (r : Replica). Fits r.site.schema e.txn) (sym c.self.view_is) c.requires.fits in
    let asked = was_asked ready.channel ready.asked in
    let place = c.in-Ok.ensures.place ∙ len_is n core.channels.list ready.channel ready.at in
    received_is v.site v.state n e ready.channel asked.0 c.in-Ok.place c.receive.new.self.list ready.at asked.1 fits ready.room place list
    ∙ ap (λ (r : Replica). receive r.site n e r.state) c.self.view_is
