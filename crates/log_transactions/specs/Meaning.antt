-- What events mean, and what entries denote.
use Rattle.std.specs.Prelude.{◌≡◌, not, Bool, true, false, List, [], ◌∷◌, ◌++◌, map, Ok}
use Rattle.std.specs.List.{flat_map}
use Rattle.std.specs.FinSet as set
use Rattle.gtid_set.specs.Sets.{Gtids}
use Rattle.gtid_text.specs.declared.Gtid.{Gtid}
use Rattle.journal.specs.declared.Entry.{Entry}
use Rattle.rows.specs.declared.change.Change.{Change}
use Rattle.log_transactions.specs.Events.{Event, Opens, Precedes, Names, Varies, Rows, Row, Commits, Maintains}
use Rattle.log_transactions.specs.Files.{next_file, has_come, come_behind}
use Rattle.log_transactions.specs.Machine.{LogState, is_idle, runs, start}
use Rattle.log_transactions.specs.Varied.{with_varied}
use Rattle.log_transactions.specs.declared.stages.FileOrder.{FileOrder}
use Rattle.log_transactions.specs.declared.stages.FileOrder.TheVariants as files
use Rattle.log_transactions.specs.declared.varied.Varied.{Varied}

-- what an event means for transactions: a GTID, a change of a row, and the end
pub data EventMeaning : Type 0 where
  Of : Gtid → EventMeaning
  Changed : Change → EventMeaning
  Committed : EventMeaning

-- ---- of events

abbrev pub means : Event → List EventMeaning
means (Names gtid) = Of gtid ∷ []
means (Row change) = Changed change ∷ []
means Commits = Committed ∷ []
means Maintains = Committed ∷ []
means _ = []

-- what events mean, in order
abbrev pub meaning : List Event → List EventMeaning
meaning events = flat_map means events

-- what was executed before, by these events: the sets that come before the first GTID, together
abbrev pub executed_before : Gtids → List Event → Gtids
executed_before before [] = before
executed_before before (Names gtid ∷ es) = before
executed_before before (Precedes gtids ∷ es) = executed_before (set.union before gtids) es
executed_before before (_ ∷ es) = executed_before before es

-- the columns that the server compares otherwise than their bytes, with their collations, after these events
abbrev pub varied_in : List Varied → List Event → List Varied
varied_in vs [] = vs
varied_in vs (Varies table column collation ∷ es) = varied_in (with_varied vs table column collation) es
varied_in vs (_ ∷ es) = varied_in vs es

-- ---- what a log owes

-- Each statement of rows ends before its transaction does: no transaction commits behind a rows event that doesn't end its statement.
abbrev pub StatementsEnd : Bool → List Event → Type 0
StatementsEnd is_open [] = Unit {0}
StatementsEnd is_open (Rows ends ∷ es) = StatementsEnd (not ends) es
StatementsEnd is_open (Commits ∷ es) = (is_open ≡ false) × StatementsEnd is_open es
StatementsEnd is_open (_ ∷ es) = StatementsEnd is_open es

-- The previous set of each file but the first lies within what came before it: what came at the start, the previous set of the first file,
-- and GTIDs. What comes behind a GTID is of a later file.
abbrev pub NoGap : FileOrder → Gtids → List Event → Type 0
NoGap file come [] = Unit {0}
NoGap file come (Opens ∷ es) = NoGap (next_file file) come es
NoGap file come (Precedes gtids ∷ es) = (has_come file come gtids ≡ true) × NoGap file (come_behind file come gtids) es
NoGap file come (Names gtid ∷ es) = NoGap files.Later (set.insert come gtid) es
NoGap file come (_ ∷ es) = NoGap file come es

-- ---- of entries

abbrev pub meaning_of_entry : Entry → List EventMeaning
meaning_of_entry e = Of e.gtid ∷ (map Changed e.txn.changes ++ Committed ∷ [])

-- what entries denote, in order
abbrev pub meaning_of_entries : List Entry → List EventMeaning
meaning_of_entries entries = flat_map meaning_of_entry entries

-- ---- of a log

-- The events are those of a log, if this is the opening set. Each may stand where it does, and the last transaction has ended. What they mean
-- is what the entries denote, in order: nothing is dropped, doubled or moved. This was executed before, and these are the columns that the
-- server compares otherwise than their bytes. Each statement ends, and between two files nothing lacks.
pub record AreOfLog (opening : Gtids) (events : List Event) (previous : Gtids) (entries : List Entry) (varied : List Varied) : Type 0 where
  pub state : LogState
  pub run : runs (start opening) events ≡ Ok state
  pub ended : is_idle state.stage ≡ true
  pub means : meaning events ≡ meaning_of_entries entries
  pub before : previous ≡ executed_before set.empty events
  pub varies : varied ≡ varied_in [] events
  pub statements : StatementsEnd false events
  pub gapless : NoGap files.Unread opening events

-- what a machine has after events of a whole log is what they are of
abbrev pub EventsMeanEntries : Type 0
EventsMeanEntries = (opening : Gtids) (events : List Event) (s : LogState) → runs (start opening) events ≡ Ok s → is_idle s.stage ≡ true → AreOfLog opening events s.previous s.entries s.varied
