use Rattle.std.proofs.Common.{◌≡◌, ℕ, ◌≤◌, true, sym, ap, subst, ◌∙◌, rules, arith, ◌<◌, ◌-◌, ◌+◌, length}
use Rattle.std.specs.FinMap as finmap
use Rattle.journal.specs.Journals.{whole}
use Rattle.std.proofs.lemmas.Bool.Decides.{nat_tests}
use Rattle.replica_core.specs.Machine.{take_seat, is_seat}
use Rattle.replica_core.specs.State.{Seats, State, Replica}
use Rattle.replica_core.specs.Slots.{seats_of}
use Rattle.replica_core.specs.Seated.{AreSeated, MayHave}
use Rattle.replica_core.proofs.SeatLemmas.{seated_put}
use Rattle.ownership.proofs.SlotLemmas.{of_slots-put}
use Rattle.replica_core.proofs.machine.Core.put_seat.Goals as goal

one_more : (seat : ℕ) → 1 ≤ seat → seat ≤ 64 → is_seat (seat - 1 + 1) ≡ true
one_more seat low high = grind (arith, nat_tests, low, high)

pub invariant_of-self : goal.invariant_of-self
invariant_of-self c =
    let core = c.self.inside in
    let low = c.requires.low in
    let there : c.args.seat - 1 < length core.seats = search rules in
    let seats = of_slots-put core.seats (c.args.seat - 1) c.args.spot there in
    let may = subst (λ (r : Replica). MayHave r.state.channels r.state.seats c.args.spot) (sym c.self.view_is) c.requires.may in
    record {
      same = c.self.invariant.same;
      kept = c.self.invariant.kept;
      seated = subst (AreSeated core.channels.list) (sym seats) (seated_put core.channels.list (seats_of core.seats) (c.args.seat - 1 + 1) c.args.spot may.entry (one_more c.args.seat low c.requires.high) may.at may.waits may.free c.self.invariant.seated);
    }

pub returns-clause-state : goal.returns-clause-state
returns-clause-state c =
    let core = c.self.inside in
    let low = c.requires.low in
    let there : c.args.seat - 1 < length core.seats = search rules in
    let number : c.args.seat - 1 + 1 ≡ c.args.seat = omega arith in
    let seats = of_slots-put core.seats (c.args.seat - 1) c.args.spot there ∙ ap (λ n. finmap.insert (seats_of c.self.inside.seats) n c.args.spot) number in
    ap (λ (m : Seats). let s : State = record { executed = whole core.journal.journal; rows = core.rows.rows; seats = m; channels = core.channels.list; journal = core.journal.journal } in s) seats
    ∙ ap (λ (r : Replica). take_seat c.args.seat c.args.spot.channel c.args.spot.place r.state) c.self.view_is
