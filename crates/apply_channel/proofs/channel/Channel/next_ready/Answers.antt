use Rattle.std.proofs.Common.{ap, ◌∙◌}
use Rattle.apply_channel.specs.Channels.{Keyed, next_ready}
use Rattle.apply_channel.specs.Kept.{entries_of}
use Rattle.apply_channel.proofs.Nodes.{next_is}
use Rattle.apply_channel.proofs.channel.Channel.next_ready.Goals as goal

pub returns : goal.returns
returns c =
    let s = c.self.inside in
    next_is s.schema s.graph (entries_of s.slots.items) c.self.invariant.nodes c.args.from c.next_ready.result c.next_ready.ensures
    ∙ ap (λ (k : Keyed). next_ready k.schema k.channel.received c.args.from) c.self.view_is
