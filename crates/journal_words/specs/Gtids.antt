-- Sources, GTIDs and sets of them as words: each has one spelling.
use Rattle.std.specs.Prelude.{ℕ, nat_lt, Bool, List, [], ◌∷◌, Option, Some, None, option_map, Result, Ok, Err, codes, if◌then◌else◌}
use Rattle.std.specs.List.{list_all}
use Rattle.std.specs.Str.{bytes_eq}
use Rattle.std.specs.FinSet as set
use Rattle.gtid_text.specs.declared.Gtid.{Gtid}
use Rattle.gtid_text.specs.declared.Span.{Span}
use Rattle.gtid_text.specs.declared.scan.ScanFault.{ScanFault}
use Rattle.gtid_text.specs.Canonical.{source_text, gtid_text, spans_text}
use Rattle.gtid_text.specs.Counting.{are_tidy_behind}
use Rattle.gtid_text.specs.Reading.{source_in, gtid_in, spans_in}
use Rattle.gtid_set.specs.declared.fault.SetFault.{SetFault}
use Rattle.gtid_set.specs.Full.{HasManySources, HasManyIntervals, IsMemoryOr}
use Rattle.gtid_set.specs.Sets.{Gtids, interval}
use Rattle.row_images.specs.Values.{where_same}

abbrev pub is_ascii_byte : ℕ → Bool
is_ascii_byte b = nat_lt b 128

-- what was read, if the word is its one text
abbrev pub same_or_none : {A : Type 0} → (A → List ℕ) → List ℕ → Result A ScanFault → Option A
same_or_none text word (Ok x) = where_same text word x
same_or_none text word (Err r) = None

abbrev pub if_ascii : {A : Type 0} → List ℕ → Option A → Option A
if_ascii word found = if list_all is_ascii_byte word then found else None

-- the source, or the GTID, that a word parses as
abbrev pub source_of_word : List ℕ → Option ℕ
source_of_word word = if_ascii word (same_or_none source_text word (source_in word))

abbrev pub gtid_of_word : List ℕ → Option Gtid
gtid_of_word word = if_ascii word (same_or_none gtid_text word (gtid_in word))

-- ---- sets

abbrev pub some_tidy : List ℕ → List Span → Option (List Span)
some_tidy word [] = None
some_tidy word (s ∷ ss) = if are_tidy_behind None (s ∷ ss) then where_same spans_text word (s ∷ ss) else None

abbrev pub tidy_or_none : List ℕ → Result (List Span) ScanFault → Option (List Span)
tidy_or_none word (Ok spans) = some_tidy word spans
tidy_or_none word (Err r) = None

-- the intervals that a word parses as, in their one order; `-` parses as none
abbrev pub spans_of_word : List ℕ → Option (List Span)
spans_of_word word =
    if bytes_eq word (codes "-") then Some []
    else if_ascii word (tidy_or_none word (spans_in word))

-- a set with the GTIDs of these intervals
abbrev pub set_with : Gtids → List Span → Gtids
set_with s [] = s
set_with s (t ∷ ts) = set_with (set.union s (interval t.source t.lo t.hi)) ts

-- the set that a word parses as
abbrev pub set_of_word : List ℕ → Option Gtids
set_of_word word = option_map (set_with set.empty) (spans_of_word word)

-- the set that a word parses as, if it parses as one, has this
abbrev pub OfParsed : (Gtids → Type 0) → Option Gtids → Type 0
OfParsed Has (Some s) = Has s
OfParsed Has None = ⊥

-- why a set that a word parses as was not made: out of memory, or the set has too many sources or intervals
abbrev pub IsWordFault : SetFault → Option Gtids → Type 0
IsWordFault f parsed = IsMemoryOr (OfParsed HasManySources parsed) (OfParsed HasManyIntervals parsed) f
