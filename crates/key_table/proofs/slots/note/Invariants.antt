use Rattle.std.proofs.Common.{◌≡◌, length}
use Rattle.key_table.specs.Slots.{home, is_full, steps}
use Rattle.key_table.proofs.SlotLemmas.{Leads}
use Rattle.key_table.proofs.slots.note.Given as goal

abbrev pub invariant-loop-left : goal.invariant-loop-left
invariant-loop-left l =
    (l.slots ≡ l.fn.slots)
    × Leads l.fn.slots (home (length l.fn.slots) l.fn.hash) steps l.at l.left × (is_full l.fn.slots (home (length l.fn.slots) l.fn.hash) steps ≡ is_full l.fn.slots l.at l.left)

abbrev pub decreases-loop-left : goal.decreases-loop-left
decreases-loop-left l = l.left
