-- Lists that are cut into ranges of keys.
use Rattle.std.specs.Prelude.{◌≡◌, ◌==◌, ℕ, zero, suc, ◌<◌, ◌-◌, false, min, length, get_or, List, [], take, drop, Option, Some, None, slice_get, IsPermutation, IsSortedByKey, if◌then◌else◌}
use Rattle.std.specs.Borrow.{Bor}
use Rattle.std.specs.Option.{unwrap_or}
use Rattle.std.specs.Ordering.{is_lt}
use Rattle.row_images.specs.declared.value.Value.{Value}
use Rattle.rows.specs.declared.change.Key.{Key}
use Rattle.rows.specs.Listing.{all_shown, key_shown}
use Rattle.rows.specs.Order.{key_cmp}
use Rattle.row_parts.specs.Listing.{joined_before}
use Rattle.row_parts.specs.declared.listing.Listed.{Listed}

-- a row that is lent, with its key
abbrev pub Shown : Type 0
Shown = Bor Key × Bor (List Value)

-- what the list at a place has
abbrev pub shown_in : Option Listed → List Shown
shown_in None = []
shown_in (Some list) = list.entries.items

abbrev pub shown_at : List Listed → ℕ → List Shown
shown_at lists place = shown_in (slice_get lists place)

-- each list has the entries of its place
abbrev pub AreListedAt : (ℕ → List (Key × List Value)) → List Listed → Type 0
AreListedAt entries lists = (i : ℕ) (list : Listed) → slice_get lists i ≡ Some list → all_shown list.entries.items ≡ entries i

-- how many entries a cut takes from a list
abbrev pub cut_from : List Shown → Option ℕ → ℕ
cut_from list cut = min (unwrap_or cut 0) (length list)

-- what is left of a list after this many cuts
abbrev pub left_of : List Shown → List ℕ → ℕ → List Shown
left_of list cuts zero = list
left_of list cuts (suc n) = drop (cut_from (left_of list cuts n) (slice_get cuts n)) (left_of list cuts n)

-- the range of a list at a place: up to the next cut, and the fourth up to the end
abbrev pub range_of : List Shown → List ℕ → ℕ → List Shown
range_of list cuts place = if place == 3 then left_of list cuts place else take (cut_from (left_of list cuts place) (slice_get cuts place)) (left_of list cuts place)

abbrev pub cuts_in : Option (List ℕ) → List ℕ
cuts_in None = []
cuts_in (Some cuts) = cuts

abbrev pub range_in : List Listed → (ℕ → List ℕ) → ℕ → ℕ → List Shown
range_in lists cuts place i = range_of (shown_at lists i) (cuts i) place

-- that range of all lists
abbrev pub ranges_at : List Listed → (ℕ → List ℕ) → ℕ → List Shown
ranges_at lists cuts place = joined_before (range_in lists cuts place) (length lists)

abbrev pub IsRising : List Shown → Type 0
IsRising list = IsSortedByKey key_shown key_cmp list

-- the first key of a list is not below the last one of another
abbrev pub Follows : List Shown → List Shown → Type 0
Follows before list = (d : Shown) → 0 < length before → 0 < length list → is_lt (key_cmp (key_shown (get_or list 0 d)) (key_shown (get_or before (length before - 1) d))) ≡ false

-- a list has that range of all lists, in order
pub record IsRange (lists : List Listed) (cuts : ℕ → List ℕ) (place : ℕ) (list : Listed) : Type 0 where
  pub same : IsPermutation (ranges_at lists cuts place) list.entries.items
  pub rising : IsRising list.entries.items

-- if each of these lists is in order, so are all of them, one after another
abbrev pub RisesAlong : List Listed → List Shown → Type 0
RisesAlong lists all = ((i : ℕ) (list : Listed) → slice_get lists i ≡ Some list → IsRising list.entries.items) → IsRising all
