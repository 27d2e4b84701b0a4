use Rattle.std.proofs.Common.{ap, sym, subst, ◌∙◌}
use Rattle.std.specs.Prelude.{is_none}
use Rattle.std.specs.FinSet as set
use Rattle.rows.specs.Fits.{Fits}
use Rattle.gtid_set.specs.Sets.{Gtids}
use Rattle.journal.specs.Journals.{whole}
use Rattle.apply_channel.specs.Channels.{with_received, received_as}
use Rattle.replica_core.specs.State.{Replica}
use Rattle.replica_core.specs.Kept.{ChannelsValue}
use Rattle.replica_core.specs.Keyed.{with_channels}
use Rattle.replica_core.specs.Slots.{seats_of}
use Rattle.replica_core.specs.Machine.{receive, change_at}
use Rattle.replica_core.proofs.CoreLemmas.{replica_of}
use Rattle.replica_core.proofs.ReceiveLemmas.{received_is, core_received, was_not_full, was_asked, len_is, there_is}
use Rattle.replica_core.proofs.machine.Core.receive_fitting.Goals as goal

pub invariant_of-self : goal.invariant_of-self
invariant_of-self c =
    let core = c.self.inside in
    let e = c.args.entry.now in
    let known = c.contains-executed.ensures ∙ ap (λ (s : Gtids). set.contains s e.gtid) c.executed.ensures in
    let put = c.in-Ok.ensures.put ∙ ap (λ b. with_channels (change_at c.args.channel (with_received (received_as b e)) core.channels.list) core.channels) known in
    let fits = subst (λ (r : Replica). Fits r.site.schema e.txn) (sym c.self.view_is) c.requires.fits in
    core_received core.rows.schema core.channels c.receive.new.self (whole core.journal.journal) (seats_of core.seats) c.args.channel e c.self.invariant fits c.requires.number put

pub returns-in-Ok-clause-ok : goal.returns-in-Ok-clause-ok
returns-in-Ok-clause-ok c =
    let core = c.self.inside in
    let n = c.args.channel in
    let e = c.args.entry.now in
    let one = c.in-Some.one.now.channel in
    let v = replica_of core.own core.rows (seats_of core.seats) core.channels.list core.journal.journal in
    let at = c.in-Some.ensures.found.value in
    let known = c.contains-executed.ensures ∙ ap (λ (s : Gtids). set.contains s e.gtid) c.executed.ensures in
    let list = ap (λ (w : ChannelsValue). w.list) c.in-Ok.ensures.put ∙ ap (λ b. change_at n (with_received (received_as b e)) core.channels.list) known in
    let fits = subst (λ (r : Replica). Fits r.site.schema e.txn) (sym c.self.view_is) c.requires.fits in
    let asked = was_asked one (ap is_none (sym c.last_ask.ensures) ∙ there_is c.last_ask.result c.is_none.result c.is_none.ensures c.if-is_none.false) in
    let full = was_not_full n core.channels.list one at c.in-Ok.ensures.full.1 in
    let place = c.in-Ok.ensures.place ∙ len_is n core.channels.list one at in
    received_is v.site v.state n e one asked.0 c.in-Ok.place c.receive.new.self.list at asked.1 fits full place list
    ∙ ap (λ (r : Replica). receive r.site n e r.state) c.self.view_is
