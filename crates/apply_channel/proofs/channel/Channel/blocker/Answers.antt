use Rattle.std.proofs.Common.{◌<◌, length, ap, ◌∙◌, subst, sym}
use Rattle.std.specs.Option.{option_copied}
use Rattle.apply_channel.specs.Channels.{Keyed, blocker}
use Rattle.apply_channel.specs.Kept.{entries_of, received_of}
use Rattle.apply_channel.proofs.Nodes.{nodes_length, node_blocker, unblocked}
use Rattle.apply_channel.proofs.Slots.{below_slots, entry_at}
use Rattle.apply_channel.proofs.channel.Channel.blocker.Goals as goal

pub blocker-requires : goal.blocker-requires
blocker-requires c =
    let s = c.self.inside in
    let size = nodes_length s.schema s.graph (entries_of s.slots.items) c.self.invariant.nodes in
    let there : c.args.place < length (entries_of s.slots.items) = subst (λ (k : Keyed). c.args.place < length k.channel.received) (sym c.self.view_is) c.requires in
    subst (λ n. c.args.place < n) (sym size) there

pub returns-in-Some : goal.returns-in-Some
returns-in-Some c =
    let s = c.self.inside in
    let n = c.args.place in
    let there : n < length s.slots.items = below_slots s.slots.items n (subst (λ (k : Keyed). n < length k.channel.received) (sym c.self.view_is) c.requires) in
    c.blocker.ensures
    ∙ node_blocker s.schema s.graph (entries_of s.slots.items) c.self.invariant.nodes n (received_of c.index.result.now) c.in-Some.field-0.now (entry_at s.slots.items n c.index.result.now there c.index.ensures) (sym c.txn.ensures ∙ ap option_copied c.in-Some.is)
    ∙ ap (λ (k : Keyed). blocker k.schema k.channel.received n) c.self.view_is

pub returns-in-None : goal.returns-in-None
returns-in-None c =
    let s = c.self.inside in
    let n = c.args.place in
    let there : n < length s.slots.items = below_slots s.slots.items n (subst (λ (k : Keyed). n < length k.channel.received) (sym c.self.view_is) c.requires) in
    unblocked s.schema (entries_of s.slots.items) n (received_of c.index.result.now) (entry_at s.slots.items n c.index.result.now there c.index.ensures) (sym c.txn.ensures ∙ ap option_copied c.in-None.is)
    ∙ ap (λ (k : Keyed). blocker k.schema k.channel.received n) c.self.view_is
