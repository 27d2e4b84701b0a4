-- The text of a bundle: its lines, each ended by a line feed. Only its version and the order of its `row` lines are free.
use Rattle.std.specs.Prelude.{◌≡◌, ℕ, ◌+◌, ◌≤◌, ◌<◌, Bool, true, false, List, [], ◌∷◌, ◌++◌, length, map, Option, Some, None, Result, Ok, codes, if◌then◌else◌}
use Rattle.std.specs.List.{list_all, flat_map, AllByRecursion}
use Rattle.std.specs.FinMap as map_of
use Rattle.std.specs.FinSet as set
use Rattle.gtid_text.specs.Canonical.{source_text}
use Rattle.gtid_text.specs.Written.{IsSource}
use Rattle.rows.specs.declared.change.TableRow.{TableRow}
use Rattle.rows.specs.declared.schema.Table.{Table}
use Rattle.rows.specs.Apply.{Rows}
use Rattle.rows.specs.Database.{Database}
use Rattle.rows.specs.Listing.{rows_listed}
use Rattle.rows.specs.declared.limits.Limits.{Limits}
use Rattle.txn_journal.specs.Versions.{limits_of, is_named, is_numbered, newest}
use Rattle.rows.specs.Tables.{table_fault}
use Rattle.journal.specs.declared.Entry.{Entry}
use Rattle.journal.specs.Journals.{JournalValue}
use Rattle.journal.specs.Writing.{is_image_writable}
use Rattle.gtid_set.specs.Sets.{Gtids}
use Rattle.txn_journal.specs.Lines.{◌>>=◌, takes}
use Rattle.txn_journal.specs.Machine.{fits}
use Rattle.txn_journal.specs.Shapes.{Shape, shape_text, FitsTable, shape_for}
use Rattle.txn_journal.specs.References.{ReferenceShape, reference_text, reference_shape, AreReferences}
use Rattle.txn_journal.specs.Assumptions.{assumption_text, has_channel, AreAssumptions}
use Rattle.txn_journal.specs.declared.references.Reference.{Reference}
use Rattle.txn_journal.specs.declared.assumptions.Assumption.{Assumption}
use Rattle.txn_journal.specs.BundleStates.{BundleValue, with_opening}
use Rattle.txn_journal.specs.Spelling.{Line, version_text, image_text, line_text, journal_lines, IsWritten, IsStamp}
use Rattle.row_images.specs.Images.{AreValues}
use Rattle.txn_journal.specs.Places.{WritesPlaced}
use Rattle.txn_journal.specs.Stamps.{right_stamps, all_stamps}
use Rattle.txn_journal.specs.WrittenSets.{set_text, IsWrittenSet}
use Rattle.txn_journal.specs.declared.bundle.BundleChannel.{BundleChannel}
use Rattle.txn_journal.specs.declared.fault.Cause.{Cause}
use Rattle.txn_journal.specs.declared.lines.Version.{Version}
use Rattle.txn_journal.specs.declared.lines.Version.TheVariants.{One, Two, Three}
use Rattle.txn_journal.specs.declared.lines.Due.{Due}
use Rattle.txn_journal.specs.declared.lines.Due.TheVariants.{Any, Only}

-- ---- lines

-- the content of a line of the bundle's own
pub data OwnLine : Type 0 where
  Heads : Version → OwnLine
  Names : ℕ → OwnLine
  Starts : Gtids → OwnLine
  Has : Shape → OwnLine
  Refers : ReferenceShape → OwnLine
  Puts : TableRow → OwnLine
  Opens : BundleChannel → OwnLine
  Assumes : Assumption → OwnLine
  Done : OwnLine

pub data BundleLine : Type 0 where
  Own : OwnLine → BundleLine
  Inner : Line → BundleLine

abbrev pub preserve_text : Bool → List ℕ
preserve_text true = codes " preserve"
preserve_text false = []

-- the text of a line, without its line feed
abbrev pub own_text : OwnLine → List ℕ
own_text (Heads version) = codes "bundle" ++ 32 ∷ version_text version
own_text (Names replica) = codes "replica" ++ 32 ∷ source_text replica
own_text (Starts opened) = codes "opening" ++ 32 ∷ set_text opened
own_text (Has shape) = codes "table" ++ 32 ∷ shape_text shape
own_text (Refers shape) = codes "fk" ++ 32 ∷ reference_text shape
own_text (Puts r) = image_text (codes "row") r.table r.row
own_text (Opens c) = codes "channel" ++ 32 ∷ (c.name ++ preserve_text c.preserve)
own_text (Assumes a) = codes "assume" ++ 32 ∷ assumption_text a
own_text Done = codes "done"

abbrev pub bundle_line_text : BundleLine → List ℕ
bundle_line_text (Own l) = own_text l
bundle_line_text (Inner l) = line_text l

-- the first line of a bundle that may have places
abbrev pub newest_bundle_header : List ℕ
newest_bundle_header = own_text (Heads Three)

abbrev pub ended_bundle_line : BundleLine → List ℕ
ended_bundle_line l = bundle_line_text l ++ 10 ∷ []

-- the text of lines, each ended by a line feed
abbrev pub bundle_text : List BundleLine → List ℕ
bundle_text ls = flat_map ended_bundle_line ls

-- ---- bundles

abbrev pub table_lines : List Table → List BundleLine
table_lines tables = map (λ t. Own (Has (shape_for t))) tables

abbrev pub reference_lines : List Reference → List BundleLine
reference_lines references = map (λ r. Own (Refers (reference_shape r))) references

abbrev pub row_lines : List TableRow → List BundleLine
row_lines rows = map (λ r. Own (Puts r)) rows

abbrev pub assumption_lines : List Assumption → List BundleLine
assumption_lines assumptions = map (λ a. Own (Assumes a)) assumptions

-- a channel, and the journal that it brings
abbrev pub channel_lines : Version → BundleChannel → List ℕ → JournalValue → List BundleLine
channel_lines version c stamps j = Own (Opens c) ∷ map Inner (journal_lines version stamps j)

-- with the last_committed of each entry of each journal
abbrev pub channels_lines : Version → List BundleChannel → List (List ℕ) → List JournalValue → List BundleLine
channels_lines version (c ∷ cs) (stamps ∷ all) (j ∷ js) = channel_lines version c stamps j ++ channels_lines version cs all js
channels_lines version _ _ _ = []

-- version 1 has no line of the opening set
abbrev pub opening_set_lines : Version → Gtids → List BundleLine
opening_set_lines version opened = if is_numbered version then Own (Starts opened) ∷ [] else []

-- the replica, the set with which it begins, and its tables
abbrev pub tables_lines : Version → ℕ → Gtids → List Table → List BundleLine
tables_lines version replica opened tables = (Own (Heads version) ∷ Own (Names replica) ∷ opening_set_lines version opened) ++ table_lines tables

-- the lines before the first channel, with the rows in this order
abbrev pub start_lines : Version → List TableRow → BundleValue → List BundleLine
start_lines version rows b = tables_lines version b.replica b.opened b.start.schema ++ (reference_lines b.references ++ row_lines rows)

-- the lines of a bundle before its assumptions
abbrev pub bundle_front : Version → List TableRow → List (List ℕ) → BundleValue → List BundleLine
bundle_front version rows stamps b = start_lines version rows b ++ channels_lines version b.channels stamps b.journals

abbrev pub bundle_lines : Version → List TableRow → List (List ℕ) → BundleValue → List BundleLine
bundle_lines version rows stamps b = bundle_front version rows stamps b ++ (assumption_lines b.assumptions ++ Own Done ∷ [])

-- the text of a bundle whose rows come in this order
abbrev pub bundle_spelling : Version → List TableRow → BundleValue → List ℕ
bundle_spelling version rows b = bundle_text (bundle_lines version rows (all_stamps version b.start.schema b.journals) b)

-- ---- what can be written

-- a table's name, and one or more values
pub record FitsRow (limits : Limits) (r : TableRow) : Type 0 where
  pub name : is_named limits r.table ≡ true
  pub values : AreValues r.row
  pub some : 0 < length r.row

-- each table may come after those before it
abbrev pub AreAdded : Limits → List Table → List Table → Type 0
AreAdded limits before [] = Unit {0}
AreAdded limits before (t ∷ ts) = FitsTable limits t × (table_fault before t ≡ None) × AreAdded limits (before ++ t ∷ []) ts

-- the opening rows that come of these, put in turn
abbrev pub put_all : Database → List TableRow → Result Rows Cause
put_all d [] = Ok d.rows
put_all d (r ∷ rs) = with_opening d r >>= λ rows. put_all (record d { rows = rows }) rs

-- each row can be written, and their schema takes them all in turn
pub record AreOpening (limits : Limits) (schema : List Table) (rs : List TableRow) (rows : Rows) : Type 0 where
  pub fit : AllByRecursion (FitsRow limits) rs
  pub writable : list_all (λ r. is_image_writable limits r.row) rs ≡ true
  pub put : put_all (record { schema = schema; rows = map_of.empty }) rs ≡ Ok rows

-- each channel has a name that none before it has
abbrev pub AreNamed : Limits → List BundleChannel → List BundleChannel → Type 0
AreNamed limits before [] = Unit {0}
AreNamed limits before (c ∷ cs) = (is_named limits c.name ≡ true) × (has_channel before c.name ≡ false) × AreNamed limits (before ++ c ∷ []) cs

-- the tables take each change of an entry
abbrev pub entry_fits : List Table → Entry → Bool
entry_fits tables e = list_all (fits (Some tables)) e.txn.changes

pub record IsWrittenIn (limits : Limits) (tables : List Table) (j : JournalValue) : Type 0 where
  pub written : IsWritten limits j
  pub fitting : list_all (entry_fits tables) j.entries ≡ true

-- a journal for each channel, with what its tables take
abbrev pub AreBrought : Limits → List Table → List BundleChannel → List JournalValue → Type 0
AreBrought limits tables [] [] = Unit {0}
AreBrought limits tables (c ∷ cs) (j ∷ js) = IsWrittenIn limits tables j × AreBrought limits tables cs js
AreBrought limits tables _ _ = ⊥

-- version 1 has the empty opening set
abbrev pub IsOpeningSet : Version → Gtids → Type 0
IsOpeningSet One opened = opened ≡ set.empty
IsOpeningSet _ opened = IsWrittenSet opened

-- what a bundle keeps, if its rows come in this order
pub record IsWrittenBundle (version : Version) (rows : List TableRow) (b : BundleValue) : Type 0 where
  pub replica : IsSource b.replica
  pub opened : IsOpeningSet version b.opened
  pub tables : AreAdded (limits_of version) [] b.start.schema
  pub references : AreReferences (limits_of version) b.start.schema b.references
  pub opening : AreOpening (limits_of version) b.start.schema rows b.start.rows
  pub named : AreNamed (limits_of version) [] b.channels
  pub few : length b.channels ≤ 256
  pub brought : AreBrought (limits_of version) b.start.schema b.channels b.journals
  pub assumed : AreAssumptions (limits_of version) b.opened b.start b.channels b.journals b.assumptions

-- this version can write it, with its rows in listed order
abbrev pub IsWritableBy : Version → BundleValue → Type 0
IsWritableBy version b = IsWrittenBundle version (rows_listed b.start.rows) b

-- what every bundle keeps: version 2 or 3 can write it
abbrev pub IsBundle : BundleValue → Type 0
IsBundle b = (limits : Limits) × IsWritableBy (newest limits) b

-- the bytes are a text of this bundle, by this version
pub record WritesBundleAs (version : Version) (bytes : List ℕ) (b : BundleValue) : Type 0 where
  pub rows : List TableRow
  pub written : IsWrittenBundle version rows b
  pub text : bytes ≡ bundle_spelling version rows b

-- by a version that is due, without places
abbrev pub WritesPlainBundle : Due → List ℕ → BundleValue → Type 0
WritesPlainBundle due bytes b = (version : Version) × (takes due version ≡ true) × WritesBundleAs version bytes b

-- by a version that is due: in version 3 places may stand before entries
abbrev pub WritesBundleBy : Due → List ℕ → BundleValue → Type 0
WritesBundleBy due bytes b = WritesPlaced bundle_line_text newest_bundle_header (WritesPlainBundle due) bytes b

-- by this version, if it can write the bundle
abbrev pub WritesWhereWritable : Version → List ℕ → BundleValue → Type 0
WritesWhereWritable version bytes b = IsWritableBy version b → WritesBundleBy (Only version) bytes b

-- by any version
abbrev pub WritesBundle : List ℕ → BundleValue → Type 0
WritesBundle bytes b = WritesBundleBy Any bytes b

-- its text by this version, with its rows in listed order
abbrev pub spelling_by : Version → BundleValue → List ℕ
spelling_by version b = bundle_spelling version (rows_listed b.start.rows) b

-- ---- bundles whose last entry has not been tested as a whole

-- the last entry has some last_committed below its place, and each before it has its own
pub record IsLastStamped (version : Version) (tables : List Table) (stamps : List ℕ) (es : List Entry) : Type 0 where
  pub earlier : List Entry
  pub last : Entry
  pub stamp : ℕ
  pub entries : es ≡ earlier ++ last ∷ []
  pub all : stamps ≡ right_stamps version tables earlier ++ stamp ∷ []
  pub is_stamp : IsStamp version (length earlier + 1) stamp

-- so has the last journal, and each before it has its own
pub record AreAlmostStamped (version : Version) (tables : List Table) (stamps : List (List ℕ)) (js : List JournalValue) : Type 0 where
  pub earlier : List JournalValue
  pub last : JournalValue
  pub last_stamps : List ℕ
  pub journals : js ≡ earlier ++ last ∷ []
  pub all : stamps ≡ all_stamps version tables earlier ++ last_stamps ∷ []
  pub almost : IsLastStamped version tables last_stamps last.entries

pub record AlmostWritesAs (version : Version) (bytes : List ℕ) (b : BundleValue) : Type 0 where
  pub rows : List TableRow
  pub stamps : List (List ℕ)
  pub written : IsWrittenBundle version rows b
  pub stamped : AreAlmostStamped version b.start.schema stamps b.journals
  pub text : bytes ≡ bundle_text (bundle_lines version rows stamps b)

abbrev pub AlmostWritesBundle : Due → List ℕ → BundleValue → Type 0
AlmostWritesBundle due bytes b = (version : Version) × (takes due version ≡ true) × AlmostWritesAs version bytes b

-- A bundle of version 1 has a text by version 2.
abbrev pub UpgradeHasText : Type 0
UpgradeHasText = (bytes : List ℕ) (b : BundleValue) → WritesBundleBy (Only One) bytes b → WritesBundleBy (Only Two) (spelling_by Two b) b
