-- The faults of a line, by its words and not by the way in which it is read.
use Rattle.std.specs.Prelude.{◌≡◌, ◌⊎◌, ℕ, ◌+◌, ◌<◌, ◌≤◌, true, false, List, length, Option, Some, None, is_some, codes}
use Rattle.std.specs.FinSet as set
use Rattle.gtid_text.specs.Written.{IsUsable}
use Rattle.rows.specs.declared.change.Change.TheVariants.{Insert, Delete, Update}
use Rattle.rows.specs.declared.schema.Table.{Table}
use Rattle.rows.specs.declared.limits.Limits.{Limits}
use Rattle.rows.specs.Limits.{most_changes}
use Rattle.txn_journal.specs.Versions.{limits_of, is_numbered}
use Rattle.journal.specs.Writing.{is_change_writable}
use Rattle.gtid_text.specs.declared.Gtid.{Gtid}
use Rattle.txn_journal.specs.Due.{is_due}
use Rattle.row_images.specs.Words.{is_count}
use Rattle.txn_journal.specs.Lines.{Numbers, keyword_of, takes, stamp_in}
use Rattle.txn_journal.specs.Machine.{Standing, fits}
use Rattle.txn_journal.specs.Wordings.{Wording, HasCauseBy}
use Rattle.txn_journal.specs.WrittenSets.{IsWrittenSet}
use Rattle.txn_journal.specs.Spelling.{Line, Header, Previous, Begin, Makes, End, Close, line_text, FitsChange}
use Rattle.txn_journal.specs.declared.fault.Cause.{Cause}
use Rattle.txn_journal.specs.declared.lines.Keyword.{Keyword}
use Rattle.txn_journal.specs.declared.lines.Keyword.TheVariants as keywords
use Rattle.txn_journal.specs.declared.lines.Version.{Version}
use Rattle.txn_journal.specs.declared.lines.Due.{Due}

abbrev pub keyword_text : Keyword → List ℕ
keyword_text keywords.Journal = codes "journal"
keyword_text keywords.Previous = codes "previous"
keyword_text keywords.Txn = codes "txn"
keyword_text keywords.Ins = codes "ins"
keyword_text keywords.Upd = codes "upd"
keyword_text keywords.Del = codes "del"
keyword_text keywords.End = codes "end"
keyword_text keywords.Close = codes "close"

-- the first word of a line
abbrev pub word_for : Line → Keyword
word_for (Header version) = keywords.Journal
word_for (Previous s) = keywords.Previous
word_for (Begin g numbers) = keywords.Txn
word_for (Makes (Insert table after)) = keywords.Ins
word_for (Makes (Delete table before)) = keywords.Del
word_for (Makes (Update table before after)) = keywords.Upd
word_for End = keywords.End
word_for Close = keywords.Close

-- both are numbers, of any length
abbrev pub AreCounts : Option Numbers → Type 0
AreCounts None = Unit {0}
AreCounts (Some numbers) = (is_count numbers.last_committed ≡ true) × (is_count numbers.sequence_number ≡ true)

-- its words are those of a set, a GTID, numbers, a name and values
abbrev pub FitsLine : Limits → Line → Type 0
FitsLine limits (Header version) = Unit {0}
FitsLine limits (Previous s) = IsWrittenSet s
FitsLine limits (Begin g numbers) = IsUsable g × AreCounts numbers
FitsLine limits (Makes change) = FitsChange limits change
FitsLine limits End = Unit {0}
FitsLine limits Close = Unit {0}

-- each image of a change has a value
abbrev pub HasImages : Line → Type 0
HasImages (Makes (Insert table after)) = 0 < length after
HasImages (Makes (Delete table before)) = 0 < length before
HasImages (Makes (Update table before after)) = (0 < length before) × (0 < length after)
HasImages _ = Unit {0}

-- version 1 writes no numbers, and each other version an entry's
abbrev pub HasNumbers : Version → Option Numbers → Type 0
HasNumbers version numbers = is_some numbers ≡ is_numbered version

-- it is of a version that is due, or of the version of the lines before
abbrev pub IsOfVersion : Due → Version → Line → Type 0
IsOfVersion due version (Header v) = takes due v ≡ true
IsOfVersion due version (Begin g numbers) = HasNumbers version numbers
IsOfVersion due version _ = Unit {0}

-- its words are those of such a line, and may be there
pub record FitsAt (due : Due) (version : Version) (l : Line) : Type 0 where
  pub words : FitsLine (limits_of version) l
  pub images : HasImages l
  pub of_version : IsOfVersion due version l

-- a limit that the line passes: of entries, of changes, of values of an image and of bytes of a value
abbrev pub PassesLimit : Standing → Line → Type 0
PassesLimit s (Begin g numbers) = 4294967294 ≤ s.count
PassesLimit s (Makes change) = (most_changes (limits_of s.version) ≤ length s.changes) ⊎ (is_change_writable (limits_of s.version) change ≡ false)
PassesLimit s _ = ⊥

-- a change that no table takes, if there is a schema
abbrev pub IsMisfit : Option (List Table) → Line → Type 0
IsMisfit schema (Makes change) = fits schema change ≡ false
IsMisfit schema _ = ⊥

-- the sequence number is not the entry's place, or last_committed isn't below it
abbrev pub IsMisnumbered : Standing → Line → Type 0
IsMisnumbered s (Begin g numbers) = stamp_in (s.count + 1) numbers ≡ None
IsMisnumbered s _ = ⊥

-- the GTID is in the previous set, or came before
abbrev pub IsTwice : Standing → Line → Gtid → Type 0
IsTwice s (Begin h numbers) g = (h ≡ g) × (set.contains s.seen g ≡ true)
IsTwice s _ g = ⊥

-- the lines of a journal that may come next
abbrev pub wording : Option (List Table) → Standing → Wording
wording schema s = record {
  Word = Keyword;
  Line = Line;
  word_of = keyword_of;
  is_due = is_due s.place;
  header = keywords.Journal;
  word_text = keyword_text;
  line_text = line_text;
  word = word_for;
  Fits = FitsAt s.due s.version;
  PassesLimit = PassesLimit s;
  Clashes = IsMisfit schema;
  IsMisnumbered = IsMisnumbered s;
  IsTwice = IsTwice s;
}

abbrev pub HasCause : Option (List Table) → Standing → List ℕ → Cause → Type 0
HasCause schema s line cause = HasCauseBy (wording schema s) line cause
