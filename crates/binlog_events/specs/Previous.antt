-- The set of PREVIOUS_GTIDS. None: the body is not in the form of its kind.
use Rattle.std.specs.Prelude.{ℕ, zero, suc, ◌-◌, ◌*◌, ◌/◌, ◌^◌, ◌==◌, ◌||◌, ◌&&◌, nat_lt, nat_le, Bool, true, false, List, [], ◌∷◌, ◌++◌, length, take, drop, slice_index, Option, Some, None, option_map, codes, if◌then◌else◌}
use Rattle.std.specs.Int.{w128, from_be_bytes}
use Rattle.std.specs.List.{flat_map}
use Rattle.std.specs.Ordering.{nat_cmp, is_lt}
use Rattle.std.specs.Cmp.Lexicographic.{slice_cmp}
use Rattle.gtid_text.specs.Canonical.{source_text, numbers_text}
use Rattle.binlog_events.specs.Numbers.{part, low_number, varied}
use Rattle.binlog_events.specs.Gtids.{and_then}
use Rattle.binlog_events.specs.Texts.{escaped, malformed}
use Rattle.binlog_events.specs.declared.previous.SetInterval.{SetInterval}
use Rattle.binlog_events.specs.declared.previous.SetItem.{SetItem}

-- ---- what is in the body: UUIDs, each with a tag or with none, and the intervals of each

-- the tag is empty where there is none
pub record Item : Type 0 where
  pub source : ℕ
  pub tag : List ℕ
  pub intervals : List SetInterval

-- an interval: 8 bytes of its first number, 8 of that behind its last
abbrev pub interval_at : List ℕ → SetInterval
interval_at bytes = record { start = low_number (part 0 8 bytes); end = low_number (part 8 8 bytes) }

unfoldable pub intervals_at : ℕ → List ℕ → List SetInterval
intervals_at zero bytes = []
intervals_at (suc n) bytes = interval_at bytes ∷ intervals_at n (drop 16 bytes)

-- intervals of which there are so many
unfoldable pub counted_item : ℕ → List ℕ → ℕ → List ℕ → Option (Item × List ℕ)
counted_item source tag n bytes =
    if nat_lt (length bytes / 16) n then None
    else Some (record { source = source; tag = tag; intervals = intervals_at n bytes }, drop (16 * n) bytes)

-- 8 bytes of how many intervals there are, and the intervals
unfoldable pub item_behind : ℕ → List ℕ → List ℕ → Option (Item × List ℕ)
item_behind source tag bytes = if nat_lt (length bytes) 8 then None else counted_item source tag (low_number (part 0 8 bytes)) (drop 8 bytes)

-- a tag is its length, a number of varying length, and as many bytes; a set without tags has nothing in its place
unfoldable pub tag_at : Bool → List ℕ → Option (List ℕ × List ℕ)
tag_at tagged bytes =
    if tagged then and_then (varied bytes) (λ p. if nat_le p.0 32 && nat_le p.0 (length p.1) then Some (take p.0 p.1, drop p.0 p.1) else None)
    else Some ([], bytes)

-- the UUID's 16 bytes, the tag, and the intervals
unfoldable pub item_at : Bool → List ℕ → Option (Item × List ℕ)
item_at tagged bytes =
    if nat_lt (length bytes) 16 then None
    else and_then (tag_at tagged (drop 16 bytes)) (λ t. item_behind (from_be_bytes w128 (part 0 16 bytes)) t.0 t.1)

-- so many items, and nothing behind them
unfoldable pub items_at : Bool → ℕ → List ℕ → Option (List Item)
items_at tagged zero bytes = if length bytes == 0 then Some [] else None
items_at tagged (suc n) bytes = and_then (item_at tagged bytes) (λ p. option_map (λ is. p.0 ∷ is) (items_at tagged n p.1))

-- 8 bytes of how many items there are; where there are tags, 6 bytes of it between two bytes 1
unfoldable pub items_of : List ℕ → Option (List Item)
items_of body =
    if nat_lt (length body) 8 then None
    else if (slice_index body 0 == 1) && (slice_index body 7 == 1) then items_at true (low_number (part 1 6 body)) (drop 8 body)
    else items_at false (low_number (part 0 8 body)) (drop 8 body)

-- ---- which of them are sets

-- an interval has a number, none beyond the greatest, and is apart from those before it, the last of which ends here
abbrev pub is_behind : ℕ → SetInterval → Bool
is_behind last i = nat_lt last i.start && (nat_lt i.start i.end && nat_lt i.end (2 ^ 63))

unfoldable pub are_behind : ℕ → List SetInterval → Bool
are_behind last [] = true
are_behind last (i ∷ is) = is_behind last i && are_behind i.end is

-- by the UUID, then by the tag
abbrev pub comes_before : Item → Item → Bool
comes_before a b = nat_lt a.source b.source || ((a.source == b.source) && is_lt (slice_cmp nat_cmp a.tag b.tag))

abbrev pub may_follow : Option Item → Item → Bool
may_follow None i = true
may_follow (Some last) i = comes_before last i

-- an item has intervals, which ascend and are apart, and comes behind the last one
abbrev pub is_item : Option Item → Item → Bool
is_item last i = nat_lt 0 (length i.intervals) && (may_follow last i && are_behind 0 i.intervals)

unfoldable pub is_set : Option Item → List Item → Bool
is_set last [] = true
is_set last (i ∷ is) = is_item last i && is_set (Some i) is

-- ---- the text of a set

abbrev pub interval_text : SetInterval → List ℕ
interval_text i = 58 ∷ numbers_text i.start (i.end - 1)

abbrev pub tag_text : List ℕ → List ℕ
tag_text tag = if length tag == 0 then [] else 58 ∷ escaped tag

abbrev pub item_text : Item → List ℕ
item_text i = source_text i.source ++ (tag_text i.tag ++ flat_map interval_text i.intervals)

-- a blank before the first item, a comma before each other
abbrev pub lead_of : Option Item → ℕ
lead_of None = 32
lead_of (Some last) = 44

-- items behind this one
unfoldable pub items_text : Option Item → List Item → List ℕ
items_text last [] = []
items_text last (i ∷ is) = lead_of last ∷ (item_text i ++ items_text (Some i) is)

-- the same, if there are items, and they are a set behind this one
abbrev pub rest_text : Option Item → Option (List Item) → Option (List ℕ)
rest_text last found = and_then found (λ is. if is_set last is then Some (items_text last is) else None)

abbrev pub previous_text : List ℕ → Option (List ℕ)
previous_text body = rest_text None (items_of body)

-- what PREVIOUS_GTIDS says: the empty set is `-`
abbrev pub previous_said : Option (List ℕ) → List ℕ
previous_said None = malformed
previous_said (Some text) = if length text == 0 then codes " -" else text

-- ---- what the code gives

abbrev pub item_of : SetItem → Item
item_of s = record { source = s.source; tag = s.tag.now; intervals = intervals_at s.count s.intervals.now }

-- the text behind others, if there is one
abbrev pub behind_others : List ℕ → Option (List ℕ) → Option (List ℕ)
behind_others old text = option_map (λ t. old ++ t) text

-- there is a text, and it was put behind others; or there is none
abbrev pub put_whole : Bool → List ℕ → Option (List ℕ)
put_whole true new = Some new
put_whole false new = None

abbrev pub intervals_text : ℕ → List SetInterval → Option (List ℕ)
intervals_text last is = if are_behind last is then Some (flat_map interval_text is) else None

-- an item behind the last one, if it may be there and its intervals are those of a set
abbrev pub led_text : Option Item → Item → Option (List ℕ)
led_text last i = if is_item last i then Some (lead_of last ∷ item_text i) else None
