-- What slots note.
use Rattle.std.specs.Prelude.{◌≡◌, ℕ, zero, suc, ◌+◌, ◌*◌, ◌/◌, ◌%◌, Bool, true, false, ◌&&◌, ◌||◌, not, ◌==◌, List, get_or, slice_get}
use Rattle.std.specs.Option.{option_map_or}
use Rattle.key_table.specs.declared.slots.Slot.{Slot}

-- how many slots are looked at for a hash
abbrev pub steps : ℕ
steps = 16

-- the place in an empty slot
abbrev pub no_place : ℕ
no_place = 4294967295

-- Past the last slot nothing is noted, and nothing is empty.
abbrev pub past : Slot
past = record { hash = 0; place = 4294967296 }

abbrev pub slot_at : List Slot → ℕ → Slot
slot_at slots at = get_or slots at past

-- the first of the slots that are searched for a hash
abbrev pub home : ℕ → ℕ → ℕ
home count hash = hash * count % 18446744073709551616 / 4294967296

abbrev pub is_taken : Slot → Bool
is_taken slot = not (slot.place == no_place)

abbrev pub notes : ℕ → ℕ → Slot → Bool
notes hash place slot = slot.hash == hash && slot.place == place

-- whether one of this many slots from here on notes a place for a hash, and none before it is empty
abbrev pub is_noted : List Slot → ℕ → ℕ → ℕ → ℕ → Bool
is_noted slots at zero hash place = false
is_noted slots at (suc n) hash place = notes hash place (slot_at slots at) || (is_taken (slot_at slots at) && is_noted slots (at + 1) n hash place)

-- whether none of this many slots from here on is empty
abbrev pub is_full : List Slot → ℕ → ℕ → Bool
is_full slots at zero = true
is_full slots at (suc n) = is_taken (slot_at slots at) && is_full slots (at + 1) n

-- whether a slot is empty, and one of this many from here on of which none before it is
abbrev pub is_free : List Slot → ℕ → ℕ → ℕ → Bool
is_free slots at zero slot = false
is_free slots at (suc n) slot = (at == slot && not (is_taken (slot_at slots at))) || (is_taken (slot_at slots at) && is_free slots (at + 1) n slot)

-- Other slots note what these note at such places, and are full where these are.
pub record Keeps (P : ℕ → Type 0) (slots others : List Slot) : Type 0 where
  pub noted : (at n hash place : ℕ) → P place → is_noted slots at n hash place ≡ true → is_noted others at n hash place ≡ true
  pub full : (at n : ℕ) → is_full slots at n ≡ true → is_full others at n ≡ true

-- whether the entry at a place has this key
abbrev pub is_under : {K V : Type 0} → (K → K → Bool) → List (K × V) → K → ℕ → Bool
is_under eq entries key place = option_map_or (λ entry. eq key entry.0) (slice_get entries place) false
