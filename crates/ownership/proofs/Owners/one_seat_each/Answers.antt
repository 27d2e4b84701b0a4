use Rattle.std.proofs.Common.{subst}
use Rattle.ownership.specs.Ownership.{IsOfSeats}
use Rattle.ownership.proofs.SlotLemmas.{slots_of_seats}
use Rattle.ownership.proofs.Owners.one_seat_each.Goals as goal

pub returns-clause-of_seats : goal.returns-clause-of_seats
returns-clause-of_seats c = subst IsOfSeats c.self.view_is (slots_of_seats c.self.inside.slots.items c.self.invariant.0)
