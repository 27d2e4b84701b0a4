use Rattle.std.proofs.Common.{ap, ◌∙◌, List}
use Rattle.std.specs.List.{list_any}
use Rattle.apply_channel.specs.Channels.{Keyed, ChannelValue, same_name}
use Rattle.replica_core.specs.Kept.{ChannelsValue}
use Rattle.replica_core.proofs.KeyedLemmas.{named_as}
use Rattle.replica_core.proofs.channels.Channels.has_name.Goals as goal

pub returns : goal.returns
returns c =
    let name = c.args.name.now in
    c.any_named.ensures
    ∙ ap (λ (ks : List Keyed). list_any (λ (k : Keyed). same_name k.channel.name name) ks) c.deref.ensures.value
    ∙ named_as name c.self.inside.list.items
    ∙ ap (λ (v : ChannelsValue). list_any (λ (x : ChannelValue). same_name x.name name) v.list) c.self.view_is
