-- What a table keeps.
use Rattle.std.specs.Prelude.{ℕ, ◌-◌, ◌≤◌, Bool, List, length, min}
use Rattle.std.specs.declared.cmp.Ordering.{Ordering}
use Rattle.indexmap.specs.Layout.{IsHashed}
use Rattle.key_table.specs.Reached.{AreReached}
use Rattle.key_table.specs.declared.slots.Slot.{Slot}
use Rattle.key_table.specs.declared.strays.Strays.{Strays}

-- how many entries there are at most
abbrev pub most : ℕ
most = 4294967290

-- how many more entries fit in lists of these capacities, if this many are there
abbrev pub room : ℕ → ℕ → ℕ → ℕ
room entries hashes len = min (min (entries - len) (hashes - len)) (most - len)

-- No two keys are equal, the hash of each is kept, and each is reached.
abbrev pub IsTable : {K V : Type 0} → (K → K → Bool) → (K → K → Ordering) → (K → ℕ) → List (K × V) → List ℕ → List Slot → Strays K → Type 0
IsTable eq cmp hash entries hashes slots strays = IsHashed eq hash hashes entries × (length entries ≤ most) × AreReached cmp hash entries slots strays
