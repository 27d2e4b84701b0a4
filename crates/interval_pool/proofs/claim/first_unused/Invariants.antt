use Rattle.std.proofs.Common.{◌≡◌, ℕ, true, ◌<◌, ◌≤◌, length}
use Rattle.interval_pool.specs.Cells.{head_at}
use Rattle.interval_pool.proofs.claim.first_unused.Given as goal

abbrev pub invariant-chains : goal.invariant-chains
invariant-chains l = (k : ℕ) → 1 ≤ k → k < l.list → k < length l.heads → (head_at l.heads k).is_list ≡ true
