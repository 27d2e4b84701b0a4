use Rattle.std.proofs.Common.{List, ap, sym, ◌∙◌}
use Rattle.std.specs.List.{list_all}
use Rattle.std.proofs.lemmas.List.Folds.{list_all-map}
use Rattle.apply_channel.specs.Channels.{Keyed, ChannelValue, are_settled}
use Rattle.replica_core.specs.Kept.{ChannelsValue}
use Rattle.replica_core.proofs.KeyedLemmas.{channel_of}
use Rattle.replica_core.proofs.channels.Channels.are_settled.Goals as goal

pub returns : goal.returns
returns c =
    c.all_settled.ensures
    ∙ ap (λ (ks : List Keyed). list_all (λ (k : Keyed). are_settled k.channel.received) ks) c.deref.ensures.value
    ∙ sym (list_all-map (λ (x : ChannelValue). are_settled x.received) channel_of c.self.inside.list.items)
    ∙ ap (λ (v : ChannelsValue). list_all (λ (x : ChannelValue). are_settled x.received) v.list) c.self.view_is
