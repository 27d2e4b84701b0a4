-- What explains a verdict or a refusal: lines of which each begins with two blanks. The words are our own.
use Rattle.std.specs.Prelude.{ℕ, ◌+◌, ◌*◌, ◌&&◌, Bool, List, [], ◌∷◌, ◌++◌, Option, Some, None, codes, decimal, if◌then◌else◌}
use Rattle.std.specs.FinSet as set
use Rattle.std.specs.Str.{bytes_eq}
use Rattle.gtid_text.specs.declared.Gtid.{Gtid}
use Rattle.gtid_text.specs.Canonical.{gtid_text}
use Rattle.gtid_set.specs.Sets.{Gtids}
use Rattle.rows.specs.declared.schema.Table.{Table}
use Rattle.rows.specs.declared.change.Key.{Key}
use Rattle.rows.specs.declared.change.RowFault.{RowFault}
use Rattle.rows.specs.declared.change.RowFault.TheVariants.{RowMissing, RowDiffers, DuplicateKey}
use Rattle.txn_journal.specs.BundleStates.{BundleValue}
use Rattle.txn_journal.specs.WrittenSets.{set_text}
use Rattle.world.specs.declared.verdict.Verdict.{Verdict}
use Rattle.world.specs.declared.verdict.Verdict.TheVariants.{Unequal, Purged, Missing, Shared, Reordered, Concurrent, NotClosed, DoesNotApply, Sound}
use Rattle.gtid_report.specs.Verdicts.{row_fault_place}
use Rattle.gtid_report.specs.declared.refusal.LineCause.{LineCause}
use Rattle.gtid_report.specs.declared.refusal.LineCause.TheVariants.{Keyword, Body, Limit, Schema, Stamp}
use Rattle.gtid_report.specs.declared.refusal.Refusal.{Refusal}
use Rattle.gtid_report.specs.declared.refusal.Refusal.TheVariants.{PoolFull, SourcesFull, Line, Truncated, Twice, Version}
use Rattle.fault_places.specs.declared.wanted.Wanted.TheVariants.{Every, OfTable, Numbered}
use Rattle.fault_places.specs.Lines.{second_word, word_at, is_table, shorten}
use Rattle.gtid_report.specs.Assumed.{is_implied}
use Rattle.fault_places.specs.Places.{line_text, places_of, bare_places, previous_sets}
use Rattle.fault_places.specs.Twice.{read_until_twice}
use Rattle.fault_places.specs.AssumedPlaces.{assumed_places}
use Rattle.fault_places.specs.Next.{next_there}
use Rattle.fault_places.specs.Due.{line_at, due_at}
use Rattle.fault_places.specs.Differences.{difference_under}
use Rattle.fault_places.specs.Orders.{inverted_pair, inverted_text}

-- ---- verdicts

-- a line is that of the key's table
abbrev pub is_of_key : Key → List ℕ → Bool
is_of_key key line = is_table line && bytes_eq (second_word line) key.table

-- the numbers of the key's columns, by the line of its table, and the line
abbrev pub columns_text : Key → ℕ → List ℕ → List ℕ
columns_text key n line = codes "  key " ++ decimal key.index ++ codes " is columns " ++ shorten (word_at (4 + 2 * key.index) line) ++ codes ", " ++ line_text n line

-- these for the line of the key's table, and nothing for other lines
abbrev pub report_columns : Key → ℕ → List ℕ → List ℕ
report_columns key n line = if is_of_key key line then columns_text key n line else []

-- the same for line n and those after it
abbrev pub columns_from : Key → ℕ → List (List ℕ) → List ℕ
columns_from key n [] = []
columns_from key n (line ∷ lines) = report_columns key n line ++ columns_from key (n + 1) lines

-- the columns of a key, and the changes of two transactions in its table
abbrev pub key_explained : List Table → Gtid → Gtid → Key → List (List ℕ) → List ℕ
key_explained tables g h key lines =
    columns_from key 1 lines ++ places_of tables (gtid_text g) (OfTable key.table) lines ++ places_of tables (gtid_text h) (OfTable key.table) lines

-- how many other GTIDs are missing, and which
abbrev pub missing_text : Option Gtids → List ℕ
missing_text None = []
missing_text (Some gtids) = codes "  also missing: " ++ decimal (set.len gtids) ++ codes ", " ++ set_text gtids ++ codes "\n"

-- the places of the next number that is there
abbrev pub next_places : Gtid → List (List ℕ) → List ℕ
next_places g lines = codes "  next there:\n" ++ bare_places (gtid_text g) lines

abbrev pub next_text : Option Gtid → List (List ℕ) → List ℕ
next_text None lines = []
next_text (Some g) lines = next_places g lines

-- what a row fault means
abbrev pub row_fault_meaning : RowFault → List ℕ
row_fault_meaning (RowMissing change key) = codes "  E10: no row has the primary key of the change's before image\n"
row_fault_meaning (RowDiffers change key) = codes "  E11: the row with that primary key is another than the change's before image\n"
row_fault_meaning (DuplicateKey change key) = codes "  E12: a row has this key of the change's after image already\n"

-- what explains a verdict on a bundle that rests on nothing, with the other missing GTIDs
abbrev pub unconditional : List (List ℕ) → BundleValue → Option Gtids → Verdict → List ℕ
unconditional lines b gtids (Unequal g) = places_of b.start.schema (gtid_text g) Every lines ++ difference_under g b
unconditional lines b gtids (Purged i purged) = previous_sets lines
unconditional lines b gtids (Missing g) = missing_text gtids ++ next_text (next_there b.opened g None b.journals) lines
unconditional lines b gtids (Shared g h key) = key_explained b.start.schema g h key lines
unconditional lines b gtids (Reordered g h key) = key_explained b.start.schema g h key lines
unconditional lines b gtids (Concurrent g h key) = key_explained b.start.schema g h key lines
unconditional lines b gtids (NotClosed g h) = places_of b.start.schema (gtid_text g) Every lines ++ places_of b.start.schema (gtid_text h) Every lines
unconditional lines b gtids (DoesNotApply g fault) = row_fault_meaning fault ++ places_of b.start.schema (gtid_text g) (Numbered (row_fault_place fault).0) lines
unconditional lines b gtids Sound = inverted_text lines b.channels (inverted_pair b)

-- what the verdict rests on, and what explains it
abbrev pub verdict_explained : List (List ℕ) → BundleValue → Option Gtids → Verdict → List ℕ
verdict_explained lines b gtids v = assumed_places (is_implied b) lines ++ unconditional lines b gtids v

-- ---- refusals

-- the lines that are allowed in the place of line n
abbrev pub due_text : ℕ → List (List ℕ) → List ℕ
due_text n lines = codes "  due here: " ++ due_at lines n ++ codes "\n"

-- what is wrong with a line
abbrev pub cause_text : LineCause → ℕ → List (List ℕ) → List ℕ
cause_text Keyword n lines = due_text n lines
cause_text Body n lines = due_text n lines
cause_text Limit n lines = codes "  a limit is passed: columns, hidden columns, unique keys, tables, foreign keys, channels, changes, bytes of a value, values of an image, entries, or assumptions\n"
cause_text Schema n lines =
    codes "  the lines before do not take it: a name twice, an unknown table, column, key or channel, a wrong number of columns or values, a null in the primary key, or a key that a row has already\n"
cause_text Stamp n lines = codes "  the sequence number is not the entry's place, or the last_committed is not that of its keys\n"

-- a line with its number
abbrev pub faulty_line : ℕ → List (List ℕ) → List ℕ
faulty_line n lines = codes "  " ++ line_text n (line_at lines n)

-- the previous sets, and the places of a GTID
abbrev pub twice_text : Gtid → List (List ℕ) → List ℕ
twice_text g lines = previous_sets lines ++ bare_places (gtid_text g) lines

-- what explains a refusal; a bundle has no other refusals than these
abbrev pub refusal_explained : List (List ℕ) → Refusal → List ℕ
refusal_explained lines (Line n cause) = faulty_line n lines ++ cause_text cause n lines
refusal_explained lines (Truncated n) = faulty_line n lines ++ due_text n lines
refusal_explained lines (Version n) = faulty_line n lines ++ due_text n lines
refusal_explained lines (Twice g) = twice_text g (read_until_twice g lines)
refusal_explained lines SourcesFull = codes "  a set has more than 65536 sources\n"
refusal_explained lines PoolFull = codes "  a set has more than 4294967294 intervals\n"
refusal_explained lines r = []
