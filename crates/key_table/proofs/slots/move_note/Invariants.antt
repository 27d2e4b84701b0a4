use Rattle.std.proofs.Common.{◌≡◌, true, length}
use Rattle.key_table.specs.Slots.{home, is_noted, steps}
use Rattle.key_table.proofs.SlotLemmas.{Leads}
use Rattle.key_table.proofs.slots.move_note.Given as goal

abbrev pub invariant-loop-left : goal.invariant-loop-left
invariant-loop-left l =
    (l.slots ≡ l.fn.slots)
    × (is_noted l.fn.slots (home (length l.fn.slots) l.fn.hash) steps l.fn.hash l.fn.from ≡ true → (is_noted l.fn.slots l.at l.left l.fn.hash l.fn.from ≡ true) × Leads l.fn.slots (home (length l.fn.slots) l.fn.hash) steps l.at l.left)

abbrev pub decreases-loop-left : goal.decreases-loop-left
decreases-loop-left l = l.left
