-- How the entry of a key is reached.
use Rattle.std.specs.Prelude.{◌≡◌, ℕ, ◌/◌, ◌%◌, ◌+◌, ◌-◌, ◌<◌, Bool, true, false, ◌⊎◌, List, length, Some, get_or, slice_get, bit_xor}
use Rattle.std.specs.declared.cmp.Ordering.{Ordering}
use Rattle.std.specs.List.{fold}
use Rattle.std.specs.Hash.{HashWrites}
use Rattle.std.specs.Hash.FoldHasher as folding
use Rattle.key_table.specs.Slots.{home, is_full, is_noted, steps}
use Rattle.key_table.specs.Strays.{IsStray}
use Rattle.key_table.specs.declared.slots.Slot.{Slot}
use Rattle.key_table.specs.declared.strays.Strays.{Strays}

-- the hash of a key that feeds a hasher these writes
abbrev pub key_hash : HashWrites → ℕ
key_hash writes = let hash = folding.finish (fold folding.write folding.initial writes) in bit_xor hash (hash / 4294967296) % 4294967296

module _ {K : Type 0} (cmp : K → K → Ordering) where
  -- A slot notes the place, or none is empty and the key has it as a stray.
  abbrev pub IsReached : List Slot → Strays K → K → ℕ → ℕ → Type 0
  IsReached slots strays key hash place = (is_noted slots (home (length slots) hash) steps hash place ≡ true) ⊎ ((is_full slots (home (length slots) hash) steps ≡ true) × IsStray cmp strays key place)

  -- Every entry is reached.
  abbrev pub AreReached : {V : Type 0} → (K → ℕ) → List (K × V) → List Slot → Strays K → Type 0
  AreReached {V} hash entries slots strays = (place : ℕ) (entry : K × V) → slice_get entries place ≡ Some entry → IsReached slots strays entry.0 (hash entry.0) place

  -- Every entry before a place is reached.
  abbrev pub AreReachedBelow : {V : Type 0} → (K → ℕ) → ℕ → List (K × V) → List Slot → Strays K → Type 0
  AreReachedBelow {V} hash n entries slots strays = (place : ℕ) (entry : K × V) → place < n → slice_get entries place ≡ Some entry → IsReached slots strays entry.0 (hash entry.0) place

  -- Every key but one is reached as before at such places.
  abbrev pub KeepsReached : (K → K → Bool) → (ℕ → Type 0) → K → List Slot → Strays K → List Slot → Strays K → Type 0
  KeepsReached eq P key slots strays others more = (other : K) (hash place : ℕ) → P place → eq key other ≡ false → IsReached slots strays other hash place → IsReached others more other hash place

  -- The last entry is reached at a place where it was reached last, and others where they were, but at that place.
  pub record Fills {V : Type 0} (hash : K → ℕ) (entries : List (K × V)) (place : ℕ) (slots : List Slot) (strays : Strays K) (others : List Slot) (more : Strays K) : Type 0 where
    pub last : (entry : K × V) → place + 1 < length entries → slice_get entries (length entries - 1) ≡ Some entry → IsReached slots strays entry.0 (hash entry.0) (length entries - 1) → IsReached others more entry.0 (hash entry.0) place
    pub kept : (i : ℕ) (entry : K × V) → i + 1 < length entries → slice_get entries i ≡ Some entry → IsReached slots strays entry.0 (hash entry.0) i → IsReached others more entry.0 (hash entry.0) i

  -- These are the entries without the one at a place, where the last is now.
  abbrev pub IsWithout : {V : Type 0} → List (K × V) → ℕ → List (K × V) → Type 0
  IsWithout {V} entries place left =
      (length left + 1 ≡ length entries) × ((d : K × V) → place + 1 < length entries → get_or left place d ≡ get_or entries (length entries - 1) d)
      × ((k : ℕ) (d : K × V) → (k ≡ place → ⊥) → k + 1 < length entries → get_or left k d ≡ get_or entries k d)

  -- Without the entry at a place all are reached, if they were.
  abbrev pub Leaves : {V : Type 0} → (K → ℕ) → List (K × V) → ℕ → List Slot → Strays K → List Slot → Strays K → Type 0
  Leaves {V} hash entries place slots strays others more = (left : List (K × V)) → IsWithout entries place left → AreReached hash entries slots strays → AreReached hash left others more
