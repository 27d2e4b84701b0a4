use Rattle.std.proofs.Common.{◌≡◌, sym, ap, subst, ◌∙◌, rules, arith, ◌<◌, ◌-◌, ◌+◌, length}
use Rattle.std.specs.FinMap as finmap
use Rattle.journal.specs.Journals.{whole}
use Rattle.replica_core.specs.Machine.{without_seat}
use Rattle.replica_core.specs.State.{Seats, State, Replica}
use Rattle.replica_core.specs.Slots.{seats_of}
use Rattle.replica_core.specs.Seated.{AreSeated}
use Rattle.replica_core.proofs.SeatLemmas.{seated_cleared}
use Rattle.ownership.proofs.SlotLemmas.{of_slots-clear}
use Rattle.replica_core.proofs.machine.Core.clear_seat.Goals as goal

pub invariant_of-self : goal.invariant_of-self
invariant_of-self c =
    let core = c.self.inside in
    let low = c.requires.low in
    let there : c.args.seat - 1 < length core.seats = search rules in
    let seats = of_slots-clear core.seats (c.args.seat - 1) there in
    record {
      same = c.self.invariant.same;
      kept = c.self.invariant.kept;
      seated = subst (AreSeated core.channels.list) (sym seats) (seated_cleared core.channels.list (seats_of core.seats) (c.args.seat - 1 + 1) c.self.invariant.seated);
    }

pub returns-clause-state : goal.returns-clause-state
returns-clause-state c =
    let core = c.self.inside in
    let low = c.requires.low in
    let there : c.args.seat - 1 < length core.seats = search rules in
    let number : c.args.seat - 1 + 1 ≡ c.args.seat = omega arith in
    let seats = of_slots-clear core.seats (c.args.seat - 1) there ∙ ap (λ n. finmap.remove (seats_of c.self.inside.seats) n) number in
    ap (λ (m : Seats). let s : State = record { executed = whole core.journal.journal; rows = core.rows.rows; seats = m; channels = core.channels.list; journal = core.journal.journal } in s) seats
    ∙ ap (λ (r : Replica). without_seat r.state c.args.seat) c.self.view_is
