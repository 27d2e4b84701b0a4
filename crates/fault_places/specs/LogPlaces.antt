-- Where a server's log has an entry, by the line before the entry's.
use Rattle.std.specs.Prelude.{ℕ, nat_eq, nat_lt, Bool, List, [], ◌++◌, Option, Some, None, codes, if◌then◌else◌}
use Rattle.std.specs.List.{starts_with, flat_map}
use Rattle.row_images.specs.Words.{count_of}
use Rattle.txn_journal.specs.Places.{end_of_times}
use Rattle.fault_places.specs.Lines.{word_at, shown_byte}
use Rattle.fault_places.specs.Times.{instant_text}

abbrev pub is_place : List ℕ → Bool
is_place line = starts_with nat_eq line (codes "place ")

-- a word of any length, whole
abbrev pub whole : List ℕ → List ℕ
whole word = flat_map shown_byte word

abbrev pub time_by : List ℕ → Option ℕ → List ℕ
time_by word None = whole word
time_by word (Some micros) = if nat_lt micros end_of_times then instant_text micros else whole word

-- the instant of so many microseconds since 1970; what is no such number, as `-`, stands as it is
abbrev pub time_shown : List ℕ → List ℕ
time_shown word = time_by word (count_of word)

-- a file and a position in it
abbrev pub where_text : List ℕ → List ℕ → List ℕ
where_text file position = codes "    at " ++ whole file ++ codes " " ++ whole position

-- a time and a server
abbrev pub when_text : List ℕ → List ℕ → List ℕ
when_text time server = codes ", " ++ time_shown time ++ codes ", server " ++ whole server ++ codes "\n"

-- those of a place's line
abbrev pub at_text : List ℕ → List ℕ
at_text line = where_text (word_at 1 line) (word_at 2 line) ++ when_text (word_at 3 line) (word_at 4 line)

-- these where the line before an entry's is that of a place, and nothing where it is another
abbrev pub log_place_text : List ℕ → List ℕ
log_place_text before = if is_place before then at_text before else []
