-- The text of journals and bundles, one part after another.
use Rattle.std.specs.Prelude.{ℕ, zero, suc, ◌+◌, Bool, true, false, List, [], ◌∷◌, ◌++◌, None, codes, decimal}
use Rattle.gtid_set.specs.Sets.{Gtids}
use Rattle.rows.specs.declared.change.Change.{Change}
use Rattle.rows.specs.declared.change.TableRow.{TableRow}
use Rattle.rows.specs.declared.schema.Table.{Table}
use Rattle.journal.specs.declared.Entry.{Entry}
use Rattle.journal.specs.Journals.{JournalValue}
use Rattle.txn_journal.specs.Splits.{columns_text}
use Rattle.txn_journal.specs.Shapes.{shape_for}
use Rattle.txn_journal.specs.Stamps.{right_stamps}
use Rattle.txn_journal.specs.Spelling.{Makes, ended_line, lines_text, entry_lines, numbers_of, opening_lines}
use Rattle.txn_journal.specs.BundleText.{Heads, Names, Has, Refers, Puts, Assumes, Own, ended_bundle_line, bundle_text, channel_lines, opening_set_lines}
use Rattle.txn_journal.specs.References.{reference_shape}
use Rattle.txn_journal.specs.declared.references.Reference.{Reference}
use Rattle.txn_journal.specs.declared.assumptions.Assumption.{Assumption}
use Rattle.txn_journal.specs.declared.bundle.BundleChannel.{BundleChannel}
use Rattle.txn_journal.specs.declared.lines.Version.{Version}

-- ---- journals

abbrev pub changes_text : List Change → List ℕ
changes_text [] = []
changes_text (c ∷ cs) = ended_line (Makes c) ++ changes_text cs

-- the text of an entry from the line feed of its first line on
abbrev pub body_text : List Change → List ℕ
body_text cs = codes "\n" ++ (changes_text cs ++ codes "end\n")

-- entries without numbers
abbrev pub entries_text : List Entry → List ℕ
entries_text [] = []
entries_text (e ∷ es) = lines_text (entry_lines None e) ++ entries_text es

-- entries from a place on, each with its last_committed
abbrev pub stamped_text : Version → ℕ → List ℕ → List Entry → List ℕ
stamped_text version place (stamp ∷ stamps) (e ∷ es) = lines_text (entry_lines (numbers_of version place stamp) e) ++ stamped_text version (place + 1) stamps es
stamped_text version place _ _ = []

-- the first two lines of a journal
unfoldable pub opening_text : Version → Gtids → List ℕ
opening_text version previous = lines_text (opening_lines version previous)

-- the text of a journal around that of its entries
unfoldable pub text_around : Version → Gtids → List ℕ → List ℕ
text_around version previous entries = opening_text version previous ++ (entries ++ codes "close\n")

-- ---- bundles

-- columns, each after a comma
abbrev pub columns_behind : List ℕ → List ℕ
columns_behind [] = []
columns_behind (c ∷ cs) = 44 ∷ (decimal c ++ columns_behind cs)

-- the columns of unique keys
abbrev pub uniques_text : List (List ℕ) → List ℕ
uniques_text [] = []
uniques_text (u ∷ us) = codes " uk " ++ (columns_text u ++ uniques_text us)

-- how many columns are hidden, if any are
abbrev pub hidden_part : ℕ → List ℕ
hidden_part zero = []
hidden_part (suc n) = codes " hidden" ++ 32 ∷ decimal (suc n)

-- whether the server itself changes children
abbrev pub cascade_part : Bool → List ℕ
cascade_part true = codes " cascade"
cascade_part false = []

abbrev pub tables_text : List Table → List ℕ
tables_text [] = []
tables_text (t ∷ ts) = ended_bundle_line (Own (Has (shape_for t))) ++ tables_text ts

abbrev pub references_text : List Reference → List ℕ
references_text [] = []
references_text (r ∷ rs) = ended_bundle_line (Own (Refers (reference_shape r))) ++ references_text rs

abbrev pub rows_text : List TableRow → List ℕ
rows_text [] = []
rows_text (r ∷ rs) = ended_bundle_line (Own (Puts r)) ++ rows_text rs

abbrev pub assumptions_text : List Assumption → List ℕ
assumptions_text [] = []
assumptions_text (a ∷ said) = ended_bundle_line (Own (Assumes a)) ++ assumptions_text said

-- a channel, and its journal
unfoldable pub channel_and_journal_text : Version → List Table → BundleChannel → JournalValue → List ℕ
channel_and_journal_text version tables c j = bundle_text (channel_lines version c (right_stamps version tables j.entries) j)

abbrev pub channels_and_journals_text : Version → List Table → List BundleChannel → List JournalValue → List ℕ
channels_and_journals_text version tables (c ∷ cs) (j ∷ js) = channel_and_journal_text version tables c j ++ channels_and_journals_text version tables cs js
channels_and_journals_text version tables _ _ = []

-- the lines of a bundle before its tables
unfoldable pub head_text : Version → ℕ → Gtids → List ℕ
head_text version replica opened = bundle_text (Own (Heads version) ∷ Own (Names replica) ∷ opening_set_lines version opened)

-- the lines before the first channel
unfoldable pub start_text : Version → ℕ → Gtids → List Table → List Reference → List TableRow → List ℕ
start_text version replica opened tables references rows = head_text version replica opened ++ (tables_text tables ++ (references_text references ++ rows_text rows))
