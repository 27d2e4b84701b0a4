use Rattle.std.proofs.Common.{refl, sym, subst, ap, ◌∙◌, List, map}
use Rattle.apply_channel.specs.Channels.{with_asked, ChannelValue}
use Rattle.replica_core.specs.Kept.{ChannelsValue, AreOf}
use Rattle.replica_core.specs.Keyed.{with_channels, keyed_asked}
use Rattle.replica_core.specs.Machine.{change_at}
use Rattle.replica_core.proofs.KeyedLemmas.{channel_of, asked_as, of_changed}
use Rattle.replica_core.proofs.channels.Channels.set_ask.Goals as goal

pub returns : goal.returns
returns c =
    let same = ap (map channel_of) c.ask_one.ensures ∙ asked_as c.args.channel c.args.asked c.self.inside.list.items in
    ap (λ (cs : List ChannelValue). let v : ChannelsValue = record { schema = c.self.inside.schema; list = cs } in v) same
    ∙ ap (λ (v : ChannelsValue). with_channels (change_at c.args.channel (with_asked c.args.asked) v.list) v) c.self.view_is

pub invariant_of-self : goal.invariant_of-self
invariant_of-self c =
    subst (AreOf c.self.inside.schema) (sym c.ask_one.ensures) (of_changed c.self.inside.schema c.args.channel (keyed_asked c.args.asked) c.self.inside.list.items (λ k. refl) c.self.invariant)
