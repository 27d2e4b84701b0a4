-- The first difference between the transactions that two journals have under one GTID. The words are our own.
use Rattle.std.specs.Prelude.{ℕ, ◌+◌, ◌-◌, ◌*◌, ◌/◌, ◌==◌, ◌||◌, nat_eq, nat_lt, not, Bool, false, List, [], ◌∷◌, ◌++◌, map, length, take, drop, slice_get, Option, Some, None, is_some, codes, decimal, if◌then◌else◌}
use Rattle.std.specs.List.{position_from}
use Rattle.std.specs.Option.{unwrap_or}
use Rattle.std.specs.Str.{bytes_eq}
use Rattle.gtid_text.specs.declared.Gtid.{Gtid}
use Rattle.gtid_text.specs.Gtids.{same_gtid}
use Rattle.row_images.specs.declared.value.Value.{Value}
use Rattle.row_images.specs.Values.{value_text}
use Rattle.rows.specs.declared.change.Change.{Change}
use Rattle.rows.specs.declared.change.Change.TheVariants.{Insert, Delete, Update}
use Rattle.rows.specs.Fits.{table_of}
use Rattle.journal.specs.declared.Entry.{Entry}
use Rattle.journal.specs.Journals.{JournalValue}
use Rattle.world.specs.Equal.{name_eq, change_eq}
use Rattle.txn_journal.specs.BundleStates.{BundleValue}
use Rattle.fault_places.specs.Channels.{entries_of, label_at}

-- the index of the first difference between two lists whose first elements have index n; None if they are equal
abbrev pub first_difference : {A : Type 0} → (A → A → Bool) → ℕ → List A → List A → Option ℕ
first_difference same n [] [] = None
first_difference same n [] (y ∷ ys) = Some n
first_difference same n (x ∷ xs) [] = Some n
first_difference same n (x ∷ xs) (y ∷ ys) = if same x y then first_difference same (n + 1) xs ys else Some n

-- ---- journals

-- the changes of the entry with this GTID
abbrev pub changes_under : Gtid → List Entry → Option (List Change)
changes_under g [] = None
changes_under g (e ∷ es) = if same_gtid g e.gtid then Some e.txn.changes else changes_under g es

-- a journal has the GTID
abbrev pub has_gtid : Gtid → JournalValue → Bool
has_gtid g j = is_some (changes_under g j.entries)

-- there are changes, and they differ from these
abbrev pub are_others : List Change → Option (List Change) → Bool
are_others cs None = false
are_others cs (Some ds) = is_some (first_difference change_eq 0 cs ds)

-- a journal has a transaction with this GTID that differs from these changes
abbrev pub has_other : Gtid → List Change → JournalValue → Bool
has_other g cs j = are_others cs (changes_under g j.entries)

-- the changes that channel n has under this GTID
abbrev pub changes_at : Gtid → List JournalValue → ℕ → List Change
changes_at g js n = unwrap_or (changes_under g (entries_of js n)) []

-- ---- values

-- a word longer than 4096 bytes; only byte strings have such a word
abbrev pub is_long : List ℕ → Bool
is_long word = nat_lt 4096 (length word)

-- the index, within the values, of the first byte that differs: a word is `x` and two digits for each byte
abbrev pub byte_difference : List ℕ → List ℕ → ℕ
byte_difference v w = (unwrap_or (first_difference nat_eq 0 v w) 0 - 1) / 2

-- the length of a byte string, and the digits of some of its bytes, starting at byte `from`
abbrev pub digits_text : ℕ → ℕ → List ℕ → List ℕ
digits_text count from digits = decimal count ++ codes " bytes, from byte " ++ decimal from ++ codes ": x" ++ digits

-- that for a byte string, with up to 64 bytes; null and numbers are printed whole
abbrev pub part_text : ℕ → List ℕ → List ℕ
part_text from [] = []
part_text from (b ∷ bs) = if b == 120 then digits_text (length bs / 2) from (take 128 (drop (2 * from) bs)) else b ∷ bs

-- the line of one channel
abbrev pub side_text : List ℕ → List ℕ → List ℕ
side_text label shown = codes "    " ++ label ++ codes ": " ++ shown ++ codes "\n"

-- both values whole
abbrev pub whole_text : List ℕ → List ℕ → List ℕ → List ℕ → List ℕ
whole_text a b v w = codes ":\n" ++ side_text a v ++ side_text b w

-- part of both values
abbrev pub parts_text : ℕ → List ℕ → List ℕ → List ℕ → List ℕ → List ℕ
parts_text from a b v w = side_text a (part_text from v) ++ side_text b (part_text from w)

abbrev pub from_text : ℕ → List ℕ
from_text at = codes ", from byte " ++ decimal at ++ codes " on:\n"

-- the first byte that differs, and up to 64 bytes of both values, starting 32 bytes before it
abbrev pub long_text : ℕ → List ℕ → List ℕ → List ℕ → List ℕ → List ℕ
long_text at a b v w = from_text at ++ parts_text (at - 32) a b v w

-- two values: whole if both words are short
abbrev pub values_text : List ℕ → List ℕ → List ℕ → List ℕ → List ℕ
values_text a b v w = if is_long v || is_long w then long_text (byte_difference v w) a b v w else whole_text a b v w

-- ---- changes

-- two changes differ in their kind or in their table
abbrev pub attribute_text : List ℕ → List ℕ → ℕ → List ℕ → List ℕ → List ℕ → List ℕ
attribute_text a b n what x y = codes "  change " ++ decimal n ++ codes " differs in its " ++ what ++ codes ":\n" ++ side_text a x ++ side_text b y

-- two changes differ in a column of an image
abbrev pub column_text : List ℕ → List ℕ → ℕ → List ℕ → ℕ → List ℕ → List ℕ → List ℕ
column_text a b n image i v w =
    codes "  change " ++ decimal n ++ codes " differs in column " ++ decimal i ++ codes " of its " ++ image ++ codes " image" ++ values_text a b v w

-- the keyword of a change
abbrev pub kind_word : Change → List ℕ
kind_word (Insert t r) = codes "ins"
kind_word (Delete t r) = codes "del"
kind_word (Update t r s) = codes "upd"

-- the words of the values of an image
abbrev pub words_of : List Value → List (List ℕ)
words_of row = map value_text row

-- the words of the before image; an insert has none
abbrev pub before_words : Change → List (List ℕ)
before_words (Insert t r) = []
before_words (Delete t r) = words_of r
before_words (Update t r s) = words_of r

-- the words of the after image; a delete has none
abbrev pub after_words : Change → List (List ℕ)
after_words (Insert t r) = words_of r
after_words (Delete t r) = []
after_words (Update t r s) = words_of s

-- the word in a column; empty past the last column
abbrev pub word_in : List (List ℕ) → ℕ → List ℕ
word_in words i = unwrap_or (slice_get words i) []

-- the first column in which the after images differ
abbrev pub after_text : List ℕ → List ℕ → ℕ → List (List ℕ) → List (List ℕ) → Option ℕ → List ℕ
after_text a b n vs ws None = []
after_text a b n vs ws (Some i) = column_text a b n (codes "after") i (word_in vs i) (word_in ws i)

-- the first column in which the before images differ, or else the after images
abbrev pub before_text : List ℕ → List ℕ → ℕ → Change → Change → Option ℕ → List ℕ
before_text a b n c d None = after_text a b n (after_words c) (after_words d) (first_difference bytes_eq 0 (after_words c) (after_words d))
before_text a b n c d (Some i) = column_text a b n (codes "before") i (word_in (before_words c) i) (word_in (before_words d) i)

-- the first difference between two changes: kind, then table, then images
abbrev pub change_text : List ℕ → List ℕ → ℕ → Change → Change → List ℕ
change_text a b n c d =
    if not (bytes_eq (kind_word c) (kind_word d)) then attribute_text a b n (codes "kind") (kind_word c) (kind_word d)
    else if not (name_eq (table_of c) (table_of d)) then attribute_text a b n (codes "table") (table_of c) (table_of d)
    else before_text a b n c d (first_difference bytes_eq 0 (before_words c) (before_words d))

-- only this channel has a change with this number
abbrev pub extra_text : List ℕ → ℕ → List ℕ
extra_text label n = codes "  change " ++ decimal n ++ codes " is only in " ++ label ++ codes "\n"

-- the difference at change n, of which one may be absent
abbrev pub change_at_text : List ℕ → List ℕ → ℕ → Option Change → Option Change → List ℕ
change_at_text a b n (Some c) (Some d) = change_text a b n c d
change_at_text a b n (Some c) None = extra_text a n
change_at_text a b n None d = extra_text b n

-- the difference at the first change that differs
abbrev pub difference_text : List ℕ → List ℕ → List Change → List Change → Option ℕ → List ℕ
difference_text a b cs ds None = []
difference_text a b cs ds (Some n) = change_at_text a b n (slice_get cs n) (slice_get ds n)

abbrev pub changes_text : List ℕ → List ℕ → List Change → List Change → List ℕ
changes_text a b cs ds = difference_text a b cs ds (first_difference change_eq 0 cs ds)

-- ---- a GTID

-- the difference between channel m and another one, if there is one
abbrev pub difference_between : Gtid → BundleValue → ℕ → Option ℕ → List ℕ
difference_between g b m None = []
difference_between g b m (Some n) = changes_text (label_at b.channels m) (label_at b.channels n) (changes_at g b.journals m) (changes_at g b.journals n)

-- the difference between channel m and the first channel that differs from it under this GTID
abbrev pub difference_from : Gtid → BundleValue → Option ℕ → List ℕ
difference_from g b None = []
difference_from g b (Some m) = difference_between g b m (position_from (has_other g (changes_at g b.journals m)) 0 b.journals)

-- the difference between the first channel that has the GTID and the first one that differs from it
abbrev pub difference_under : Gtid → BundleValue → List ℕ
difference_under g b = difference_from g b (position_from (has_gtid g) 0 b.journals)
