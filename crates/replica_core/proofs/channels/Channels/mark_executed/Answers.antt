use Rattle.std.proofs.Common.{ap, ◌∙◌, List, map}
use Rattle.apply_channel.specs.Channels.{settle_channel, ChannelValue}
use Rattle.replica_core.specs.Kept.{ChannelsValue}
use Rattle.replica_core.specs.Keyed.{with_channels}
use Rattle.replica_core.proofs.KeyedLemmas.{channel_of, settled_as, of_settled}
use Rattle.replica_core.proofs.channels.Channels.mark_executed.Goals as goal

pub invariant_of-self : goal.invariant_of-self
invariant_of-self c = rw c.settle_list.ensures (of_settled c.self.inside.schema c.args.gtid.now c.self.inside.list.items c.self.invariant)

pub returns : goal.returns
returns c =
    let same = ap (map channel_of) c.settle_list.ensures ∙ settled_as c.args.gtid.now c.self.inside.list.items in
    ap (λ (cs : List ChannelValue). let v : ChannelsValue = record { schema = c.self.inside.schema; list = cs } in v) same
    ∙ ap (λ (v : ChannelsValue). with_channels (map (settle_channel c.args.gtid.now) v.list) v) c.self.view_is
