use Rattle.std.proofs.Common.{rules, ◌≡◌, length, sym, ap, ◌∙◌, true≢false}
use Rattle.replica_core.specs.State.{Replica}
use Rattle.replica_core.proofs.SameLemmas.{seats_same}
use Rattle.replica_core.proofs.machine.Core.is_equal.Goals as goal

pub returns-then-not-are_same_seats : goal.returns-then-not-are_same_seats
returns-then-not-are_same_seats c = (
  λ e. absurd (true≢false (sym e)),
  λ e.
      let a = c.self.inside.seats in
      let b = c.other.inside.seats in
      let long : length a ≡ length b = search rules in
      sym c.if-not-are_same_seats.true ∙ c.are_same_seats.ensures.1 (seats_same a b long (ap (λ (r : Replica). r.state.seats) (c.self.view_is ∙ e ∙ sym c.other.view_is))),
)
