-- Journals as a format, and a journal that comes in pieces.
use Rattle.std.specs.Prelude.{◌≡◌, ℕ, Bool, true, false, List, [], ◌++◌, Option, None, Result, Ok, Err}
use Rattle.gtid_set.specs.declared.fault.SetFault.{SetFault}
use Rattle.journal.specs.declared.Entry.{Entry}
use Rattle.journal.specs.Journals.{JournalValue}
use Rattle.txn_journal.specs.declared.fault.JournalFault.{JournalFault}
use Rattle.txn_journal.specs.Stream.{Progress, Reading, Stopped}
use Rattle.txn_journal.specs.Formats.{Format, start_of, feed_bytes_by, IsFaultBy, closing_by}
use Rattle.txn_journal.specs.Places.{WritesPlaced}
use Rattle.txn_journal.specs.PlacedFormats.{placed}
use Rattle.txn_journal.specs.declared.placed.Placed.{Placed}
use Rattle.txn_journal.specs.Machine.{Standing, empty, is_last, takes_places, drop_entries, judge, IsFull}
use Rattle.txn_journal.specs.Lines.{takes}
use Rattle.txn_journal.specs.Spelling.{Line, line_text, newest_header, WritesAs, WritesPlain}
use Rattle.txn_journal.specs.LinesSoFar.{lines_so_far}
use Rattle.txn_journal.specs.Causes.{HasCause}
use Rattle.txn_journal.specs.declared.lines.Version.{Version}
use Rattle.txn_journal.specs.declared.lines.LinePlace.{LinePlace}
use Rattle.txn_journal.specs.declared.lines.LinePlace.TheVariants as places
use Rattle.txn_journal.specs.declared.lines.Due.{Due}
use Rattle.txn_journal.specs.declared.lines.Due.TheVariants.{Any}

-- journals that stand alone, without places
abbrev pub journals_as : {V : Type 0} → Due → (Standing → V) → (List ℕ → V → Type 0) → Format
journals_as {V} due value Writes = record {
  Line = Line;
  State = Standing;
  Value = V;
  start = empty due;
  judge = judge None;
  is_last = λ s. is_last s.place;
  value = value;
  IsFull = IsFull;
  line_text = line_text;
  Writes = Writes;
  AlmostWrites = Writes;
  is_open = λ s. false;
  is_inside = λ line. false;
  HasLines = λ s ls. lines_so_far s ≡ ls;
  HasCause = HasCause None;
}

-- whatever their version and numbers
abbrev pub plain_journals : Format
plain_journals = journals_as Any (λ s. s.journal) WritesPlain

-- the same, and in version 3 with places before entries
abbrev pub journals : Format
journals = placed plain_journals takes_places newest_header

-- a journal as it is written
pub record WrittenJournal : Type 0 where
  pub version : Version
  pub stamps : List ℕ
  pub journal : JournalValue

abbrev pub as_written : Standing → WrittenJournal
as_written s = record { version = s.version; stamps = s.stamps; journal = s.journal }

-- of a version that is due
abbrev pub IsWrittenAs : Due → List ℕ → WrittenJournal → Type 0
IsWrittenAs due bytes w = (takes due w.version ≡ true) × WritesAs w.version w.stamps bytes w.journal

abbrev pub written_journals : Due → Format
written_journals due = journals_as due as_written (IsWrittenAs due)

-- of any version, where places may stand before entries
abbrev pub IsTextOf : List ℕ → WrittenJournal → Type 0
IsTextOf bytes w = WritesPlaced line_text newest_header (IsWrittenAs Any) bytes w

-- how far a text has come
abbrev pub JournalProgress : Type 0
JournalProgress = Progress (Placed Standing)

-- before the first byte
abbrev pub before_first : JournalProgress
before_first = start_of journals

-- a journal that stands alone, byte by byte
abbrev pub feed_journal_bytes : JournalProgress → List ℕ → JournalProgress
feed_journal_bytes p bytes = feed_bytes_by journals p bytes

-- why bytes are not taken, though nothing is wrong with them: out of memory, or a journal's set has too many sources or intervals after
-- some of them
abbrev pub IsFaultAlone : JournalProgress → List ℕ → SetFault → Type 0
IsFaultAlone p bytes fault = IsFaultBy journals p bytes fault

-- the whole entries so far that were not taken
abbrev pub entries_of : JournalProgress → List Entry
entries_of (Reading s n rest) = s.made.journal.entries
entries_of (Stopped fault) = []

-- entries, and the last_committed of each
pub record Stamped : Type 0 where
  pub entries : List Entry
  pub stamps : List ℕ

abbrev pub stamped_of : JournalProgress → Stamped
stamped_of (Reading s n rest) = record { entries = s.made.journal.entries; stamps = s.made.stamps }
stamped_of (Stopped fault) = record { entries = []; stamps = [] }

abbrev pub without_entries : JournalProgress → JournalProgress
without_entries (Reading s n rest) = Reading (record s { made = drop_entries s.made }) n rest
without_entries (Stopped fault) = Stopped fault

-- the end of the text
abbrev pub closing : JournalProgress → Result JournalValue JournalFault
closing p = closing_by journals p

-- the same reading with these entries before its own
abbrev pub in_front : List Entry → JournalValue → JournalValue
in_front front journal = record journal { entries = front ++ journal.entries }

abbrev pub with_taken : Stamped → Standing → Standing
with_taken front s = record s { journal = in_front front.entries s.journal; stamps = front.stamps ++ s.stamps }

abbrev pub behind_entries : Stamped → JournalProgress → JournalProgress
behind_entries front (Reading s n rest) = Reading (record s { made = with_taken front s.made }) n rest
behind_entries front (Stopped fault) = Stopped fault

abbrev pub with_front : List Entry → Result JournalValue JournalFault → Result JournalValue JournalFault
with_front front (Ok journal) = Ok (in_front front journal)
with_front front (Err fault) = Err fault

-- the lines of a journal's opening have come, so that entries may
abbrev pub has_begun : LinePlace → Bool
has_begun places.Header = false
has_begun places.Previous = false
has_begun _ = true

abbrev pub HasBegun : JournalProgress → Type 0
HasBegun (Reading s n rest) = has_begun s.made.place ≡ true
HasBegun (Stopped fault) = Unit {0}

-- earlier entries make no difference to what bytes do
abbrev pub FeedsBehind : Stamped → JournalProgress → List ℕ → Type 0
FeedsBehind front p bytes = feed_journal_bytes (behind_entries front p) bytes ≡ behind_entries front (feed_journal_bytes p bytes)

-- What is read is the same, in whatever two pieces the bytes come.
abbrev pub AnyCut : Type 0
AnyCut = (p : JournalProgress) (front back : List ℕ) → feed_journal_bytes p (front ++ back) ≡ feed_journal_bytes (feed_journal_bytes p front) back

-- Entries that were taken stand in front of those of the journal that is read at the end.
abbrev pub EndsBehind : Type 0
EndsBehind = (front : Stamped) (p : JournalProgress) → closing (behind_entries front p) ≡ with_front front.entries (closing p)
