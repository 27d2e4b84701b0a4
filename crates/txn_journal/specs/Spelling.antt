-- The one text of a journal: its lines, each ended by a line feed.
use Rattle.std.specs.Prelude.{◌≡◌, ℕ, ◌+◌, ◌<◌, ◌≤◌, Bool, true, List, [], ◌∷◌, ◌++◌, length, map, Option, Some, None, codes, decimal, if◌then◌else◌}
use Rattle.std.specs.List.{list_all, flat_map, AllByRecursion}
use Rattle.gtid_text.specs.declared.Gtid.{Gtid}
use Rattle.gtid_text.specs.Canonical.{gtid_text}
use Rattle.gtid_text.specs.Written.{IsSource}
use Rattle.gtid_set.specs.Sets.{Gtids}
use Rattle.row_images.specs.declared.value.Value.{Value}
use Rattle.rows.specs.declared.change.Change.{Change}
use Rattle.rows.specs.declared.change.Change.TheVariants.{Insert, Delete, Update}
use Rattle.rows.specs.declared.limits.Limits.{Limits}
use Rattle.rows.specs.Fits.{table_of}
use Rattle.txn_journal.specs.Versions.{limits_of, is_named, is_numbered}
use Rattle.journal.specs.declared.Entry.{Entry}
use Rattle.journal.specs.Journals.{JournalValue, IsJournal}
use Rattle.journal.specs.Writing.{is_writable}
use Rattle.txn_journal.specs.WrittenSets.{set_text, IsWrittenSet}
use Rattle.row_images.specs.Images.{values_text, AreValues}
use Rattle.txn_journal.specs.Lines.{Numbers}
use Rattle.txn_journal.specs.Places.{WritesPlaced}
use Rattle.txn_journal.specs.Stamps.{no_stamps}
use Rattle.txn_journal.specs.declared.lines.Version.{Version}
use Rattle.txn_journal.specs.declared.lines.Version.TheVariants.{One, Two, Three}

-- ---- lines

-- the content of a line
pub data Line : Type 0 where
  Header : Version → Line
  Previous : Gtids → Line
  Begin : Gtid → Option Numbers → Line
  Makes : Change → Line
  End : Line
  Close : Line

abbrev pub version_text : Version → List ℕ
version_text One = codes "1"
version_text Two = codes "2"
version_text Three = codes "3"

-- a word, a table and an image
abbrev pub image_text : List ℕ → List ℕ → List Value → List ℕ
image_text word table image = word ++ 32 ∷ (table ++ 32 ∷ values_text image)

abbrev pub change_text : Change → List ℕ
change_text (Insert table after) = image_text (codes "ins") table after
change_text (Delete table before) = image_text (codes "del") table before
change_text (Update table before after) = codes "upd" ++ 32 ∷ (table ++ 32 ∷ (values_text before ++ 32 ∷ (124 ∷ 32 ∷ values_text after)))

-- numbers, each after a blank
abbrev pub numbers_text : Option Numbers → List ℕ
numbers_text None = []
numbers_text (Some numbers) = 32 ∷ (numbers.last_committed ++ 32 ∷ numbers.sequence_number)

-- the text of a line, without its line feed
abbrev pub line_text : Line → List ℕ
line_text (Header version) = codes "journal" ++ 32 ∷ version_text version
line_text (Previous s) = codes "previous" ++ 32 ∷ set_text s
line_text (Begin g numbers) = codes "txn" ++ 32 ∷ (gtid_text g ++ numbers_text numbers)
line_text (Makes change) = change_text change
line_text End = codes "end"
line_text Close = codes "close"

-- the first line of a journal that may have places
abbrev pub newest_header : List ℕ
newest_header = line_text (Header Three)

abbrev pub ended_line : Line → List ℕ
ended_line l = line_text l ++ 10 ∷ []

-- the text of lines, each ended by a line feed
abbrev pub lines_text : List Line → List ℕ
lines_text ls = flat_map ended_line ls

-- ---- journals

-- the numbers of the entry at a place with this last_committed
abbrev pub numbers_of : Version → ℕ → ℕ → Option Numbers
numbers_of version place stamp = if is_numbered version then Some (record { last_committed = decimal stamp; sequence_number = decimal place }) else None

abbrev pub entry_lines : Option Numbers → Entry → List Line
entry_lines numbers e = Begin e.gtid numbers ∷ map Makes e.txn.changes ++ End ∷ []

-- the lines of entries from a place on, each with its last_committed
abbrev pub entries_lines : Version → ℕ → List ℕ → List Entry → List Line
entries_lines version place (stamp ∷ stamps) (e ∷ es) = entry_lines (numbers_of version place stamp) e ++ entries_lines version (place + 1) stamps es
entries_lines version place _ _ = []

abbrev pub opening_lines : Version → Gtids → List Line
opening_lines version previous = Header version ∷ Previous previous ∷ []

-- the lines of a journal but the last
abbrev pub front_lines : Version → List ℕ → JournalValue → List Line
front_lines version stamps j = opening_lines version j.previous ++ entries_lines version 1 stamps j.entries

abbrev pub journal_lines : Version → List ℕ → JournalValue → List Line
journal_lines version stamps j = front_lines version stamps j ++ Close ∷ []

-- the text of a journal with the last_committed of each entry
abbrev pub spelling_as : Version → List ℕ → JournalValue → List ℕ
spelling_as version stamps j = lines_text (journal_lines version stamps j)

-- the one text of a journal by version 1 of the format, which writes no numbers
abbrev pub spelling : JournalValue → List ℕ
spelling j = spelling_as One (no_stamps j.entries) j

-- ---- what can be written

-- a table's name, and values of 64 bits and bytes
abbrev pub FitsChange : Limits → Change → Type 0
FitsChange limits (Insert table after) = (is_named limits table ≡ true) × AreValues after
FitsChange limits (Delete table before) = (is_named limits table ≡ true) × AreValues before
FitsChange limits (Update table before after) = (is_named limits table ≡ true) × AreValues before × AreValues after

pub record FitsEntry (limits : Limits) (e : Entry) : Type 0 where
  pub source : IsSource e.gtid.source
  pub changes : AllByRecursion (FitsChange limits) e.txn.changes

-- what a journal keeps, with no more entries than it may have, each within the limits and of names, numbers and bytes
pub record IsWritten (limits : Limits) (j : JournalValue) : Type 0 where
  pub keeps : IsJournal j.previous j.entries
  pub writable : list_all (is_writable limits) j.entries ≡ true
  pub few : length j.entries ≤ 4294967294
  pub previous : IsWrittenSet j.previous
  pub entries : AllByRecursion (FitsEntry limits) j.entries

abbrev pub has_names : Limits → Entry → Bool
has_names limits e = list_all (λ c. is_named limits (table_of c)) e.txn.changes

-- what a journal's type leaves open and its text with these limits asks for: how many entries there are, their limits and their names
pub record FitsText (limits : Limits) (j : JournalValue) : Type 0 where
  pub few : length j.entries ≤ 4294967294
  pub writable : list_all (is_writable limits) j.entries ≡ true
  pub named : list_all (has_names limits) j.entries ≡ true

-- what the types of a change's values keep
abbrev pub HasValues : Change → Type 0
HasValues (Insert table after) = AreValues after
HasValues (Delete table before) = AreValues before
HasValues (Update table before after) = AreValues before × AreValues after

-- what the types of an entry's parts keep
pub record IsOfParts (e : Entry) : Type 0 where
  pub source : IsSource e.gtid.source
  pub values : AllByRecursion HasValues e.txn.changes

-- what denotes the last_committed of the entry at a place, which is below it where it is written
abbrev pub IsStamp : Version → ℕ → ℕ → Type 0
IsStamp One place stamp = stamp ≡ 0
IsStamp _ place stamp = stamp < place

-- one for each entry from a place on
abbrev pub AreStamps : Version → ℕ → List ℕ → List Entry → Type 0
AreStamps version place [] [] = Unit {0}
AreStamps version place (stamp ∷ stamps) (e ∷ es) = IsStamp version place stamp × AreStamps version (place + 1) stamps es
AreStamps version place _ _ = ⊥

-- the bytes are the text of this journal, by this version and with these numbers
pub record WritesAs (version : Version) (stamps : List ℕ) (bytes : List ℕ) (j : JournalValue) : Type 0 where
  pub written : IsWritten (limits_of version) j
  pub stamps_fit : AreStamps version 1 stamps j.entries
  pub text : bytes ≡ spelling_as version stamps j

-- the bytes are a text of this journal without places, whatever its version and numbers
abbrev pub WritesPlain : List ℕ → JournalValue → Type 0
WritesPlain bytes j = (version : Version) × (stamps : List ℕ) × WritesAs version stamps bytes j

-- the bytes are a text of this journal: in version 3 places may stand before its entries
abbrev pub Writes : List ℕ → JournalValue → Type 0
Writes bytes j = WritesPlaced line_text newest_header WritesPlain bytes j
