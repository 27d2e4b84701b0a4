use Rattle.std.proofs.Common.{◌≡◌, ◌<◌, ℕ, false}
use Rattle.key_table.specs.Slots.{is_under}
use Rattle.key_table.proofs.strays.scan.Given as goal

abbrev pub invariant-loop-place : goal.invariant-loop-place
invariant-loop-place g l = (place : ℕ) → place < l.place → is_under g.K.PartialEq.eq l.fn.entries l.fn.key place ≡ false
