use Rattle.std.proofs.Common.{rules, ◌≡◌, ap, ◌∙◌}
use Rattle.std.specs.Prelude.{is_none}
use Rattle.apply_channel.specs.Channels.{Keyed, are_settled}
use Rattle.apply_channel.specs.Kept.{entries_of}
use Rattle.apply_channel.proofs.Nodes.{settled_if}
use Rattle.apply_channel.proofs.channel.Channel.is_settled.Goals as goal

pub returns : goal.returns
returns c =
    let s = c.self.inside in
    let is : c.is_none.result ≡ is_none c.next_ready.result = search rules in
    is
    ∙ settled_if s.schema s.graph (entries_of s.slots.items) c.self.invariant.nodes c.next_ready.result c.next_ready.ensures
    ∙ ap (λ (k : Keyed). are_settled k.channel.received) c.self.view_is
