use Rattle.std.proofs.Common.{◌≡◌, true, rules, sym, ap, ◌∙◌}
use Rattle.std.specs.FinMap as finmap
use Rattle.replica_core.specs.Slots.{seats_of}
use Rattle.replica_core.specs.State.{Replica}
use Rattle.replica_core.proofs.AtOnceLemmas.{idle_slots, nothing_taken}
use Rattle.replica_core.proofs.machine.Core.is_idle.Goals as goal

pub returns : goal.returns
returns c = λ yes. idle_slots c.self.inside.seats c.args.self.now.state.seats (ap (λ (x : Replica). x.state.seats) c.self.view_is) (search rules)

pub returns-then-are_settled : goal.returns-then-are_settled
returns-then-are_settled c = λ _ seat.
    ap (λ (x : Replica). finmap.get x.state.seats seat) (sym c.self.view_is)
    ∙ nothing_taken c.self.inside.channels.list (seats_of c.self.inside.seats) c.self.invariant.seated (sym c.are_settled.ensures ∙ c.if-are_settled.true) seat
