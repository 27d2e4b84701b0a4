use Rattle.std.proofs.Common.{◌≡◌, ◌+◌, ◌-◌, ap, sym, ◌∙◌, arith, cond}
use Rattle.std.specs.Prelude.{Some}
use Rattle.ownership.proofs.OwnerLemmas.{owner_from, owner_first, owner_next, owner_last, nobody}
use Rattle.ownership.proofs.Owners.owner.Goals as goal

pub loop-seat-init : goal.loop-seat-init
loop-seat-init c = owner_first c.args.self.now c.args.gtid.now

pub returns-then-owns-clause-exact : goal.returns-then-owns-clause-exact
returns-then-owns-clause-exact c =
    let next = owner_next c.args.self.now c.args.gtid.now c.loop-seat.seat (64 - c.loop-seat.seat) (65 - c.loop-seat.seat) (omega arith) in
    sym (c.loop-seat.invariant ∙ next ∙ ap (λ b. cond b (Some c.loop-seat.seat) (owner_from c.args.self.now c.args.gtid.now (c.loop-seat.seat + 1) (64 - c.loop-seat.seat))) (sym c.owns.ensures ∙ c.if-owns.true))

pub loop-seat-preserved : goal.loop-seat-preserved
loop-seat-preserved c =
    let next = owner_next c.args.self.now c.args.gtid.now c.loop-seat.seat (64 - c.loop-seat.seat) (65 - c.loop-seat.seat) (omega arith) in
    c.loop-seat.invariant ∙ next ∙ ap (λ b. cond b (Some c.loop-seat.seat) (owner_from c.args.self.now c.args.gtid.now (c.loop-seat.seat + 1) (64 - c.loop-seat.seat))) (sym c.owns.ensures ∙ c.if-owns.false)
    ∙ ap (λ n. owner_from c.args.self.now c.args.gtid.now (c.loop-seat.seat + 1) n) (omega arith)

pub returns-clause-exact : goal.returns-clause-exact
returns-clause-exact c =
    let none : 65 - c.loop-seat.seat ≡ 0 = omega arith in
    sym (c.loop-seat.invariant ∙ ap (λ n. owner_from c.args.self.now c.args.gtid.now c.loop-seat.seat n) none ∙ owner_last c.args.self.now c.args.gtid.now c.loop-seat.seat)

pub returns-clause-none : goal.returns-clause-none
returns-clause-none c =
    let none : 65 - c.loop-seat.seat ≡ 0 = omega arith in
    nobody c.args.self.now c.args.gtid.now c.one_seat_each.ensures.of_seats
    (c.loop-seat.invariant ∙ ap (λ n. owner_from c.args.self.now c.args.gtid.now c.loop-seat.seat n) none ∙ owner_last c.args.self.now c.args.gtid.now c.loop-seat.seat)
