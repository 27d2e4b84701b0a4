-- The faults of a line of a bundle, by its words and not by the way in which it is read.
use Rattle.std.specs.Prelude.{◌≡◌, ◌⊎◌, ℕ, ◌<◌, ◌≤◌, true, false, List, length, Option, Some, None, Ok, codes}
use Rattle.gtid_text.specs.Written.{IsSource}
use Rattle.rows.specs.declared.schema.Table.{Table}
use Rattle.rows.specs.Apply.{Rows}
use Rattle.rows.specs.declared.limits.Limits.{Limits}
use Rattle.rows.specs.Limits.{most_tables, most_columns, most_uniques}
use Rattle.txn_journal.specs.Versions.{limits_of, is_named}
use Rattle.rows.specs.Tables.{table_fault}
use Rattle.journal.specs.Writing.{is_image_writable}
use Rattle.row_images.specs.Words.{count_of}
use Rattle.txn_journal.specs.Wordings.{Wording, HasCauseBy}
use Rattle.txn_journal.specs.Causes.{HasCause}
use Rattle.txn_journal.specs.Shapes.{Shape, FitsShape, FitsTable, shape_for}
use Rattle.txn_journal.specs.References.{ReferenceShape, FitsReference, reference_shape, IsReference, most_references}
use Rattle.txn_journal.specs.Assumptions.{FitsAssumption, last_of, may_follow, has_channel, may_assume, most_assumptions}
use Rattle.txn_journal.specs.declared.references.Reference.{Reference}
use Rattle.txn_journal.specs.BundleStates.{BundleStanding, word_of, is_due_in, after_tables, with_opening}
use Rattle.txn_journal.specs.BundleText.{OwnLine, Heads, Names, Starts, Has, Refers, Puts, Opens, Assumes, Done, own_text, FitsRow}
use Rattle.txn_journal.specs.declared.bundle_draft.Part.{Part}
use Rattle.txn_journal.specs.declared.bundle_draft.Part.TheVariants as parts
use Rattle.txn_journal.specs.declared.bundle_draft.Word.{Word}
use Rattle.txn_journal.specs.declared.bundle_draft.Word.TheVariants as words
use Rattle.txn_journal.specs.Lines.{takes}
use Rattle.txn_journal.specs.Machine.{Standing, open_entry}
use Rattle.txn_journal.specs.Spelling.{End, line_text}
use Rattle.txn_journal.specs.Stamps.{right_stamp}
use Rattle.txn_journal.specs.WrittenSets.{IsWrittenSet}
use Rattle.txn_journal.specs.declared.lines.LinePlace.TheVariants as places
use Rattle.txn_journal.specs.declared.lines.Version.{Version}
use Rattle.txn_journal.specs.declared.fault.Cause.{Cause}
use Rattle.txn_journal.specs.declared.fault.Cause.TheVariants as causes
use Rattle.txn_journal.specs.declared.lines.Due.{Due}

abbrev pub own_word_text : Word → List ℕ
own_word_text words.Bundle = codes "bundle"
own_word_text words.Replica = codes "replica"
own_word_text words.Opening = codes "opening"
own_word_text words.Table = codes "table"
own_word_text words.Reference = codes "fk"
own_word_text words.Row = codes "row"
own_word_text words.Channel = codes "channel"
own_word_text words.Assume = codes "assume"
own_word_text words.Done = codes "done"

-- the first word of a line
abbrev pub own_word : OwnLine → Word
own_word (Heads version) = words.Bundle
own_word (Names replica) = words.Replica
own_word (Starts opened) = words.Opening
own_word (Has shape) = words.Table
own_word (Refers shape) = words.Reference
own_word (Puts r) = words.Row
own_word (Opens c) = words.Channel
own_word (Assumes a) = words.Assume
own_word Done = words.Done

-- after what has come: its version is due, its words are those of a source, a set, a name, numbers and values, and an assumption is in order
abbrev pub FitsOwn : BundleStanding → OwnLine → Type 0
FitsOwn s (Heads version) = takes s.due version ≡ true
FitsOwn s (Names replica) = IsSource replica
FitsOwn s (Starts opened) = IsWrittenSet opened
FitsOwn s (Has shape) = FitsShape (limits_of s.version) shape
FitsOwn s (Refers shape) = FitsReference (limits_of s.version) shape
FitsOwn s (Puts r) = FitsRow (limits_of s.version) r
FitsOwn s (Opens c) = is_named (limits_of s.version) c.name ≡ true
FitsOwn s (Assumes a) = FitsAssumption (limits_of s.version) a × (may_follow (last_of (after_tables s).bundle.assumptions) a ≡ true)
FitsOwn s Done = Unit {0}

-- a table has a number of columns that is within the limits
pub record HasWidth (limits : Limits) (s : Shape) : Type 0 where
  pub width : ℕ
  pub written : count_of s.columns ≡ Some width
  pub some : 1 ≤ width
  pub few : width ≤ most_columns limits

-- a number of hidden columns that such a table may have
pub record HasHidden (columns : ℕ) (count : List ℕ) : Type 0 where
  pub hidden : ℕ
  pub written : count_of count ≡ Some hidden
  pub some : 1 ≤ hidden
  pub few : hidden < columns

-- its columns are hidden, and not as many as it may hide
pub record HidesWrongly (s : Shape) : Type 0 where
  pub columns : ℕ
  pub count : List ℕ
  pub written : count_of s.columns ≡ Some columns
  pub hides : s.hidden ≡ Some count
  pub wrong : HasHidden columns count → ⊥

-- too many unique keys, no number of columns that a table has, a number of hidden columns that it may not have, or too many tables before
abbrev pub PassesTableLimit : Limits → List Table → Shape → Type 0
PassesTableLimit limits tables shape = (most_uniques limits < length shape.uniques) ⊎ ((HasWidth limits shape → ⊥) ⊎ (HidesWrongly shape ⊎ (most_tables limits ≤ length tables)))

-- no table of this shape may come after the others
abbrev pub HasNoPlace : Limits → List Table → Shape → Type 0
HasNoPlace limits tables shape = (t : Table) → FitsTable limits t → shape ≡ shape_for t → table_fault tables t ≡ None → ⊥

-- no reference of this shape may be there
abbrev pub RefersWrongly : Limits → List Table → ReferenceShape → Type 0
RefersWrongly limits tables shape = (r : Reference) → IsReference limits tables r → shape ≡ reference_shape r → ⊥

-- a limit that the line passes: of tables, unique keys and columns, of references, of values of a row and their bytes, of channels, and of
-- assumptions
abbrev pub PassesOwnLimit : BundleStanding → OwnLine → Type 0
PassesOwnLimit s (Has shape) = PassesTableLimit (limits_of s.version) s.tables shape
PassesOwnLimit s (Refers shape) = most_references ≤ length (after_tables s).bundle.references
PassesOwnLimit s (Puts r) = is_image_writable (limits_of s.version) r.row ≡ false
PassesOwnLimit s (Opens c) = 256 ≤ length s.bundle.channels
PassesOwnLimit s (Assumes a) = most_assumptions ≤ length (after_tables s).bundle.assumptions
PassesOwnLimit s _ = ⊥

-- what the lines before do not allow: a table that may not come after the others, a reference to what is not there, a row that may not be
-- put, a name that a channel has, an assumption about what is not there
abbrev pub Clashes : BundleStanding → OwnLine → Type 0
Clashes s (Has shape) = HasNoPlace (limits_of s.version) s.tables shape
Clashes s (Refers shape) = RefersWrongly (limits_of s.version) (after_tables s).bundle.start.schema shape
Clashes s (Puts r) = (rows : Rows) → with_opening (after_tables s).bundle.start r ≡ Ok rows → ⊥
Clashes s (Opens c) = has_channel s.bundle.channels c.name ≡ true
Clashes s (Assumes a) = may_assume (after_tables s).bundle.opened (after_tables s).bundle.start (after_tables s).bundle.channels (after_tables s).bundle.journals a ≡ false
Clashes s _ = ⊥

-- the lines of the bundle's own that may come next; no GTID is in them
abbrev pub own_wording : BundleStanding → Wording
own_wording s = record {
  Word = Word;
  Line = OwnLine;
  word_of = word_of;
  is_due = is_due_in s.version s.part;
  header = words.Bundle;
  word_text = own_word_text;
  line_text = own_text;
  word = own_word;
  Fits = FitsOwn s;
  PassesLimit = PassesOwnLimit s;
  Clashes = Clashes s;
  IsMisnumbered = λ l. ⊥;
  IsTwice = λ l g. ⊥;
}

-- an entry ends there, whose last_committed is another than it has to be
abbrev pub EndsMisstamped : Version → List Table → Standing → List ℕ → Cause → Type 0
EndsMisstamped version tables s line causes.Stamp = (line ≡ line_text End) × (s.place ≡ places.Within) × (s.stamp ≡ right_stamp version tables s.journal.entries (open_entry s) → ⊥)
EndsMisstamped version tables s line _ = ⊥

abbrev pub bundle_cause_at : Part → BundleStanding → List ℕ → Cause → Type 0
bundle_cause_at parts.Journal s line cause = HasCause (Some s.bundle.start.schema) s.draft line cause ⊎ EndsMisstamped s.version s.bundle.start.schema s.draft line cause
bundle_cause_at _ s line cause = HasCauseBy (own_wording s) line cause

abbrev pub HasBundleCause : BundleStanding → List ℕ → Cause → Type 0
HasBundleCause s line cause = bundle_cause_at s.part s line cause
