use Rattle.std.proofs.Common.{◌≡◌, ◌+◌, replicate}
use Rattle.commit_ledger.specs.Tallies.{empty_portion}
use Rattle.commit_ledger.proofs.open_shares.Given as goal

-- as many seats are cut off as shares were made, and nothing is counted
abbrev pub invariant-loop-seat : goal.invariant-loop-seat
invariant-loop-seat g l =
    (l.step_rest.parts + l._seat ≡ l.seats) × (l.commit_rest.parts + l._seat ≡ l.seats) × (l.step_rest.amount ≡ 0) × (l.commit_rest.amount ≡ 0)
    × (l.shares.items ≡ replicate l._seat (empty_portion 1))
