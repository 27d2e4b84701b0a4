-- A journal as far as its lines have come.
use Rattle.std.specs.Prelude.{◌≡◌, ℕ, ◌+◌, Bool, true, false, not, ◌&&◌, ◌||◌, ◌==◌, nat_le, List, [], ◌∷◌, ◌++◌, length, Option, Some, None, Result, Ok, Err, if◌then◌else◌}
use Rattle.std.specs.FinSet as set
use Rattle.gtid_text.specs.declared.Gtid.{Gtid}
use Rattle.gtid_set.specs.declared.fault.SetFault.{SetFault}
use Rattle.gtid_set.specs.Full.{IsFaultOf}
use Rattle.gtid_set.specs.Sets.{Gtids}
use Rattle.row_images.specs.declared.value.Value.{Value}
use Rattle.rows.specs.declared.change.Change.{Change}
use Rattle.rows.specs.declared.change.Change.TheVariants.{Insert, Delete, Update}
use Rattle.rows.specs.declared.schema.Table.{Table}
use Rattle.rows.specs.Keys.{find_table}
use Rattle.rows.specs.Fits.{has_primary_null, table_of}
use Rattle.rows.specs.Limits.{most_changes}
use Rattle.txn_journal.specs.Versions.{limits_of, has_log_places}
use Rattle.journal.specs.declared.Entry.{Entry}
use Rattle.journal.specs.Journals.{JournalValue}
use Rattle.journal.specs.Writing.{is_number, is_change_writable}
use Rattle.row_images.specs.Words.{first_word, others}
use Rattle.txn_journal.specs.Due.{is_due}
use Rattle.txn_journal.specs.Lines.{◌>>=◌, keyword_of, due, version_in, beginning_at, set_in, nothing_in, table_in, image_in, images_in}
use Rattle.txn_journal.specs.declared.fault.Cause.{Cause}
use Rattle.txn_journal.specs.declared.fault.Cause.TheVariants as causes
use Rattle.txn_journal.specs.Stream.{TakesLine}
use Rattle.txn_journal.specs.declared.fault.LineFault.{LineFault}
use Rattle.txn_journal.specs.declared.lines.LinePlace.{LinePlace}
use Rattle.txn_journal.specs.declared.lines.LinePlace.TheVariants as places
use Rattle.txn_journal.specs.declared.lines.Keyword.{Keyword}
use Rattle.txn_journal.specs.declared.lines.Keyword.TheVariants as keywords
use Rattle.txn_journal.specs.declared.lines.Version.{Version}
use Rattle.txn_journal.specs.declared.lines.Version.TheVariants.{One}
use Rattle.txn_journal.specs.declared.lines.Due.{Due}

-- What the lines so far have made. `due` is the version that is due, if not each known one is; `seen` has the GTIDs of the previous set and
-- of all `count` entries, including those that were taken. `stamps` has the last_committed of each entry of the journal, `stamp` that of
-- the entry that is open.
pub record Standing : Type 0 where
  pub place : LinePlace
  pub due : Due
  pub version : Version
  pub journal : JournalValue
  pub stamps : List ℕ
  pub seen : Gtids
  pub count : ℕ
  pub gtid : Gtid
  pub stamp : ℕ
  pub changes : List Change

-- before the first line
abbrev pub empty : Due → Standing
empty due = record {
  place = places.Header;
  due = due;
  version = One;
  journal = record { previous = set.empty; entries = [] };
  stamps = [];
  seen = set.empty;
  count = 0;
  gtid = record { source = 0; number = 0 };
  stamp = 0;
  changes = [];
}

-- the last line has come
abbrev pub is_last : LinePlace → Bool
is_last places.Ended = true
is_last _ = false

-- between two entries, or before the first or behind the last
abbrev pub is_between : LinePlace → Bool
is_between places.Between = true
is_between _ = false

-- an entry is open
abbrev pub is_within : LinePlace → Bool
is_within places.Within = true
is_within _ = false

-- between two entries, what was seen has more sources or intervals than a set may have
abbrev pub IsFull : SetFault → Standing → Type 0
IsFull f s = (s.place ≡ places.Between) × IsFaultOf f s.seen

-- in version 3 the place of the entry that comes next may stand there
abbrev pub takes_places : Standing → Bool
takes_places s = is_between s.place && has_log_places s.version

-- the next line is within an entry
abbrev pub IsInEntry : Standing → Type 0
IsInEntry s = s.place ≡ places.Within

-- its entries were taken
abbrev pub drop_entries : Standing → Standing
drop_entries s = record s { journal = record s.journal { entries = [] }; stamps = [] }

-- ---- what a schema takes

-- a row has its table's columns, and no null in the primary key
abbrev pub is_row_of : Table → List Value → Bool
is_row_of table row = (length row == table.columns) && not (has_primary_null table row)

abbrev pub are_rows_of : Table → Change → Bool
are_rows_of table (Insert name after) = is_row_of table after
are_rows_of table (Delete name before) = is_row_of table before
are_rows_of table (Update name before after) = is_row_of table before && is_row_of table after

abbrev pub takes_change : Option Table → Change → Bool
takes_change None change = false
takes_change (Some table) change = are_rows_of table change

-- a journal that stands alone has no schema
abbrev pub fits : Option (List Table) → Change → Bool
fits None change = true
fits (Some tables) change = takes_change (find_table (table_of change) tables) change

-- ---- one line more

unfoldable pub add : Option (List Table) → Standing → Change → Result Standing Cause
add schema s change =
    if nat_le (most_changes (limits_of s.version)) (length s.changes) || not (is_change_writable (limits_of s.version) change) then Err causes.Limit
    else if not (fits schema change) then Err causes.Schema
    else Ok (record s { changes = s.changes ++ change ∷ [] })

abbrev pub begin_stamped : Standing → Gtid → Option ℕ → Result Standing Cause
begin_stamped s gtid None = Err causes.Stamp
begin_stamped s gtid (Some stamp) = if set.contains s.seen gtid then Err (causes.Twice gtid) else Ok (record s { place = places.Within; gtid = gtid; stamp = stamp })

unfoldable pub begin : Standing → Gtid → Option ℕ → Result Standing Cause
begin s gtid stamp =
    if not (is_number gtid.number) then Err causes.Body
    else if nat_le 4294967294 s.count then Err causes.Limit
    else begin_stamped s gtid stamp

abbrev pub open_entry : Standing → Entry
open_entry s = record { gtid = s.gtid; txn = record { changes = s.changes } }

-- an entry joins the others
abbrev pub join_entry : Standing → Entry → Standing
join_entry s e = record s {
  place = places.Between;
  journal = record s.journal { entries = s.journal.entries ++ e ∷ [] };
  stamps = s.stamps ++ s.stamp ∷ [];
  seen = set.insert s.seen e.gtid;
  count = s.count + 1;
  changes = [];
}

-- so does the one that is open
abbrev pub close_entry : Standing → Standing
close_entry s = join_entry s (open_entry s)

unfoldable pub header_line : Standing → Option (List ℕ) → Result Standing Cause
header_line s rest = do
  version ← version_in s.due rest
  Ok (record s { place = places.Previous; version = version; changes = [] })

unfoldable pub previous_line : Standing → Option (List ℕ) → Result Standing Cause
previous_line s rest = do
  previous ← set_in rest
  Ok (record s { place = places.Between; journal = record { previous = previous; entries = [] }; seen = previous })

unfoldable pub txn_line : Standing → Option (List ℕ) → Result Standing Cause
txn_line s rest = do
  beginning ← beginning_at s.version (s.count + 1) rest
  begin s beginning.0 beginning.1

unfoldable pub end_line : Standing → Option (List ℕ) → Result Standing Cause
end_line s rest = do
  nothing ← nothing_in rest
  Ok (close_entry s)

unfoldable pub close_line : Standing → Option (List ℕ) → Result Standing Cause
close_line s rest = do
  nothing ← nothing_in rest
  Ok (record s { place = places.Ended })

unfoldable pub step : Option (List Table) → Standing → Keyword → Option (List ℕ) → Result Standing Cause
step schema s keywords.Journal rest = header_line s rest
step schema s keywords.Previous rest = previous_line s rest
step schema s keywords.Txn rest = txn_line s rest
step schema s keywords.Ins rest = do
  table ← table_in (limits_of s.version) rest
  after ← image_in table.1
  add schema s (Insert table.0 after)
step schema s keywords.Del rest = do
  table ← table_in (limits_of s.version) rest
  before ← image_in table.1
  add schema s (Delete table.0 before)
step schema s keywords.Upd rest = do
  table ← table_in (limits_of s.version) rest
  images ← images_in table.1
  add schema s (Update table.0 images.0 images.1)
step schema s keywords.End rest = end_line s rest
step schema s keywords.Close rest = close_line s rest

-- a line at its place
unfoldable pub judge : Option (List Table) → Standing → List ℕ → Result Standing Cause
judge schema s line = do
  word ← due (is_due s.place) (keyword_of (first_word line))
  step schema s word (others line)

-- what a call did with a line, if the schema is this
abbrev pub TakesIn : Option (List Table) → Standing → List ℕ → Result (Unit {0}) LineFault → Standing → Type 0
TakesIn schema old line result new = TakesLine IsFull result (judge schema old line) new
