use Rattle.std.proofs.Common.{◌≡◌, ℕ, ◌<◌, get_or, length, slice_get, Some}
use Rattle.shared_replica.specs.Passes.{PassValue}
use Rattle.shared_replica.proofs.closing.are_ended.Given as goal

abbrev pub invariant-loop-i : goal.invariant-loop-i
invariant-loop-i g l = (k : ℕ) (p : PassValue) → k < l.i → slice_get l.passes k ≡ Some p → get_or l.cursors k 0 ≡ length p.receipts
