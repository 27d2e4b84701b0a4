use Rattle.std.proofs.Common.{ap, ◌∙◌, List, map}
use Rattle.apply_channel.specs.Channels.{with_stopped, ChannelValue}
use Rattle.replica_core.specs.Kept.{ChannelsValue}
use Rattle.replica_core.specs.Keyed.{with_channels}
use Rattle.replica_core.specs.Machine.{change_at}
use Rattle.replica_core.proofs.KeyedLemmas.{channel_of, stopped_as}
use Rattle.replica_core.proofs.channels.Channels.set_stopped.Goals as goal

pub returns : goal.returns
returns c =
    let same = ap (map channel_of) c.stop_one.ensures ∙ stopped_as c.args.channel c.args.flag c.self.inside.list.items in
    ap (λ (cs : List ChannelValue). let v : ChannelsValue = record { schema = c.self.inside.schema; list = cs } in v) same
    ∙ ap (λ (v : ChannelsValue). with_channels (change_at c.args.channel (with_stopped c.args.flag) v.list) v) c.self.view_is
