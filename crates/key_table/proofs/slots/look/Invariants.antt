use Rattle.std.proofs.Common.{◌≡◌, ℕ, true, length}
use Rattle.key_table.specs.Slots.{home, is_free, is_noted, is_under, steps}
use Rattle.key_table.proofs.slots.look.Given as goal

abbrev pub invariant-loop-left : goal.invariant-loop-left
invariant-loop-left g l =
    ((place : ℕ) → is_under g.K.PartialEq.eq l.fn.entries l.fn.key place ≡ true → is_noted l.fn.slots (home (length l.fn.slots) l.fn.hash) steps l.fn.hash place ≡ is_noted l.fn.slots l.at l.left l.fn.hash place)
    × ((slot : ℕ) → is_free l.fn.slots (home (length l.fn.slots) l.fn.hash) steps slot ≡ is_free l.fn.slots l.at l.left slot)

abbrev pub decreases-loop-left : goal.decreases-loop-left
decreases-loop-left g l = l.left
