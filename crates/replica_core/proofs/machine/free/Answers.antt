use Rattle.std.proofs.Common.{◌≡◌, ◌+◌, ◌-◌, ◌<◌, ◌≤◌, length, ℕ, true, sym, ap, subst, ◌∙◌, rules, arith}
use Rattle.std.specs.FinMap as finmap
use Rattle.std.specs.Prelude.{Option}
use Rattle.std.proofs.lemmas.Bool.Decides.{nat_tests}
use Rattle.replica_core.specs.Machine.{is_seat}
use Rattle.replica_core.specs.Seated.{IsFreeable, freed_of}
use Rattle.replica_core.specs.Slots.{seats_of}
use Rattle.ownership.proofs.SlotLemmas.{of_slots-clear}
use Rattle.replica_core.proofs.machine.free.Goals as goal

first_seat : (seat : ℕ) → is_seat seat ≡ true → 1 ≤ seat
first_seat seat h = grind (arith, nat_tests, h)

last_seat : (seat : ℕ) → is_seat seat ≡ true → seat - 1 < 64
last_seat seat h = grind (arith, nat_tests, h)

pub returns-in-Some : goal.returns-in-Some
returns-in-Some c =
    let one : is_seat c.in-Some.seat ≡ true = subst IsFreeable c.in-Some.is c.requires in
    let low = first_seat c.in-Some.seat one in
    let high = last_seat c.in-Some.seat one in
    let there : c.in-Some.seat - 1 < length c.args.seats.now = search rules in
    let number : c.in-Some.seat - 1 + 1 ≡ c.in-Some.seat = omega arith in
    of_slots-clear c.args.seats.now (c.in-Some.seat - 1) there ∙ ap (finmap.remove (seats_of c.args.seats.now)) number
    ∙ ap (λ (o : Option ℕ). freed_of o (seats_of c.args.seats.now)) (sym c.in-Some.is)
