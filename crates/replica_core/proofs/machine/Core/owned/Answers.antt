use Rattle.std.proofs.Common.{◌≡◌, ◌-◌, ◌++◌, ℕ, List, ap, sym, ◌∙◌, arith, append-nil}
use Rattle.gtid_text.specs.declared.Gtid.{Gtid}
use Rattle.replica_core.proofs.OwnedLemmas.{owned_from, owned_first, owned_last, owned_step, owned_pass}
use Rattle.replica_core.proofs.machine.Core.owned.Goals as goal
use Rattle.replica_core.proofs.machine.Core.owned.Goals.{in-Some+in_ok-push, in_default}

pub loop-seat-init : goal.loop-seat-init
loop-seat-init c = owned_first c.args.self.now.state ∙ sym (ap (λ (xs : List (ℕ × Gtid)). xs ++ owned_from c.args.self.now.state 1 64) c.new-owned.ensures.items)

pub loop-seat-preserved : goal.loop-seat-preserved
loop-seat-preserved c =
    let s = c.args.self.now.state in
    let n = c.loop-seat.seat in
    elim c.match-owned_by.branch [
      | in-Some+in_ok-push w ↦ rw w.owned-is (owned_step s n c.loop-seat.owned.items w.push.new.self.items w.in-Some.gtid c.loop-seat-test.true (sym w.in-Some.ensures) w.in_ok-push.ensures.items c.loop-seat.invariant)
      | in_default w ↦ rw w.owned-is (owned_pass s n c.loop-seat.owned.items c.loop-seat-test.true (sym w.in_default.ensures) c.loop-seat.invariant)
    ]

pub returns : goal.returns
returns c =
    let s = c.args.self.now.state in
    let n = c.loop-seat.seat in
    let none : 65 - n ≡ 0 = omega arith in
    sym (c.loop-seat.invariant ∙ ap (λ k. c.loop-seat.owned.items ++ owned_from s n k) none ∙ ap (λ (xs : List (ℕ × Gtid)). c.loop-seat.owned.items ++ xs) (owned_last s n) ∙ append-nil _)
