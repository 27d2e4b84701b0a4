-- The slots denote the entries.
use Rattle.std.proofs.Common.{◌≡◌, ℕ, ◌<◌, suc, List, [], ◌∷◌, ◌++◌, map, length, get_or, refl, ap, subst, ◌∙◌}
use Rattle.std.specs.Prelude.{Some, option_map, slice_get}
use Rattle.std.proofs.lemmas.Option.{slice_get-map, slice_get_read}
use Rattle.std.specs.FinSet as set
use Rattle.gtid_set.proofs.SetLemmas.{set_push}
use Rattle.apply_channel.specs.Slots.{Placed}
use Rattle.apply_channel.specs.Channels.{Received, received_gtids}
use Rattle.apply_channel.specs.Kept.{entries_of, received_of}
use Rattle.std.proofs.lemmas.List.{map_push}

pub entries_of-push : (slots : List Placed) (s : Placed) → entries_of (slots ++ s ∷ []) ≡ entries_of slots ++ received_of s ∷ []
entries_of-push slots s = map_push received_of slots s

pub received_gtids-push : (rs : List Received) (r : Received) → received_gtids (rs ++ r ∷ []) ≡ set.insert (received_gtids rs) r.gtid
received_gtids-push rs r = ap set.from_list (map_push (λ (e : Received). e.gtid) rs r) ∙ set_push (map (λ (e : Received). e.gtid) rs) r.gtid

-- ---- a slot and its entry

map_length : {X Y : Type 0} (f : X → Y) (xs : List X) → length (map f xs) ≡ length xs
map_length f [] = refl
map_length f (x ∷ xs) = ap suc (map_length f xs)

pub entries_length : (slots : List Placed) → length (entries_of slots) ≡ length slots
entries_length slots = map_length received_of slots

-- there are as many slots as entries
pub below_slots : (slots : List Placed) (n : ℕ) → n < length (entries_of slots) → n < length slots
below_slots slots n h = subst (λ m. n < m) (map_length received_of slots) h

pub slot_at : (slots : List Placed) (n : ℕ) (s : Placed) → n < length slots → s ≡ get_or slots n s → slice_get slots n ≡ Some s
slot_at slots n s h is = slice_get_read slots (length slots) n s refl h is

pub entry_at : (slots : List Placed) (n : ℕ) (s : Placed) → n < length slots → s ≡ get_or slots n s → slice_get (entries_of slots) n ≡ Some (received_of s)
entry_at slots n s h is = slice_get-map received_of slots n ∙ ap (option_map received_of) (slot_at slots n s h is)
