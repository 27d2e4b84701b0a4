use Rattle.std.proofs.Common.{subst, ap, ◌∙◌}
use Rattle.dependency_graph.specs.Graphs.{IsNextReady}
use Rattle.apply_channel.specs.Channels.{Keyed, first_waiting}
use Rattle.apply_channel.specs.Kept.{entries_of}
use Rattle.apply_channel.proofs.Nodes.{none_waits, first_waits, later_waits}
use Rattle.apply_channel.proofs.channel.Channel.first_waiting.Goals as goal

pub returns-in_default : goal.returns-in_default
returns-in_default c =
    let s = c.self.inside in
    none_waits s.schema s.graph (entries_of s.slots.items) c.self.invariant.nodes c.args.place (subst (λ o. IsNextReady s.graph 0 o) c.in_default.is c.next_ready.ensures)
    ∙ ap (λ (k : Keyed). first_waiting k.channel.received c.args.place) c.self.view_is

pub returns-then-first-place : goal.returns-then-first-place
returns-then-first-place c =
    let s = c.self.inside in
    first_waits s.schema s.graph (entries_of s.slots.items) c.self.invariant.nodes c.args.place c.in-Some.first (subst (λ o. IsNextReady s.graph 0 o) c.in-Some.is c.next_ready.ensures) c.if-first-place.true
    ∙ ap (λ (k : Keyed). first_waiting k.channel.received c.args.place) c.self.view_is

pub returns : goal.returns
returns c =
    let s = c.self.inside in
    later_waits s.schema s.graph (entries_of s.slots.items) c.self.invariant.nodes c.args.place c.in-Some.first (subst (λ o. IsNextReady s.graph 0 o) c.in-Some.is c.next_ready.ensures) c.if-first-place.false
    ∙ ap (λ (k : Keyed). first_waiting k.channel.received c.args.place) c.self.view_is
