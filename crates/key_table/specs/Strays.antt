-- Places of keys for which no slot was free.
use Rattle.std.specs.Prelude.{◌≡◌, ℕ, Bool, true, false, ◌⊎◌, Some}
use Rattle.std.specs.declared.cmp.Ordering.{Ordering}
use Rattle.std.specs.BTreeMap.{get}
use Rattle.key_table.specs.declared.strays.Strays.{Strays}

-- a key has a place, or it isn't known
abbrev pub IsStray : {K : Type 0} → (K → K → Ordering) → Strays K → K → ℕ → Type 0
IsStray cmp strays key place = (strays.are_incomplete ≡ true) ⊎ (get cmp strays.places key ≡ Some place)

-- every key but this keeps its place
abbrev pub KeepsStrays : {K : Type 0} → (K → K → Bool) → (K → K → Ordering) → K → Strays K → Strays K → Type 0
KeepsStrays {K} eq cmp key old new = (other : K) (place : ℕ) → eq key other ≡ false → IsStray cmp old other place → IsStray cmp new other place
