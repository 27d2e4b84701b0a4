-- How what seats have is kept: a slot for each seat.
use Rattle.std.specs.Prelude.{◌≡◌, ℕ, ◌+◌, List, [], ◌∷◌, Option, Some, None, length}
use Rattle.std.specs.Ordering.{nat_cmp}
use Rattle.std.specs.FinMap as map
use Rattle.gtid_text.specs.declared.Gtid.{Gtid}
use Rattle.ownership.specs.Ownership.{Ownership, IsOwnedOnce}

abbrev pub taken_from : {X : Type 0} → ℕ → List (Option X) → List (ℕ × X)
taken_from seat [] = []
taken_from seat (None ∷ slots) = taken_from (seat + 1) slots
taken_from seat (Some x ∷ slots) = (seat, x) ∷ taken_from (seat + 1) slots

-- the map that slots denote, the first being seat 1
abbrev pub of_slots : {X : Type 0} → List (Option X) → map.FinMap nat_cmp X
of_slots slots = map.from_entries (taken_from 1 slots)

abbrev pub owned_of : List (Option Gtid) → Ownership
owned_of slots = of_slots slots

-- 64 slots, no GTID in two of them
abbrev pub AreSlots : List (Option Gtid) → Type 0
AreSlots slots = (length slots ≡ 64) × IsOwnedOnce (owned_of slots)
