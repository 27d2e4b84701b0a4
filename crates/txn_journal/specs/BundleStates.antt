-- A bundle as far as its lines have come.
use Rattle.std.specs.Prelude.{◌≡◌, ◌⊎◌, ℕ, Bool, true, false, not, ◌&&◌, ◌==◌, nat_le, List, [], ◌∷◌, ◌++◌, length, Option, Some, None, is_some, Result, Ok, Err, codes, if◌then◌else◌}
use Rattle.std.specs.List.{list_any}
use Rattle.std.specs.FinMap as map
use Rattle.std.specs.Str.{bytes_eq}
use Rattle.std.specs.Ordering.{nat_cmp, eq_by_cmp}
use Rattle.std.specs.Cmp.Lexicographic.{slice_cmp}
use Rattle.std.specs.FinSet as set
use Rattle.gtid_set.specs.declared.fault.SetFault.{SetFault}
use Rattle.gtid_set.specs.Full.{IsFaultOf}
use Rattle.gtid_set.specs.Sets.{Gtids}
use Rattle.rows.specs.declared.schema.Table.{Table}
use Rattle.rows.specs.declared.change.TableRow.{TableRow}
use Rattle.rows.specs.declared.change.RowFault.{RowFault}
use Rattle.rows.specs.Apply.{Rows, apply}
use Rattle.rows.specs.Fits.{misfit}
use Rattle.rows.specs.Database.{Database, opening}
use Rattle.rows.specs.declared.limits.Limits.{Limits}
use Rattle.txn_journal.specs.Versions.{limits_of, has_references, has_log_places}
use Rattle.txn_journal.specs.References.{ReferenceShape, reference_behind, reference_to, most_references}
use Rattle.txn_journal.specs.Assumptions.{has_channel, next_assumption, may_assume, most_assumptions}
use Rattle.txn_journal.specs.declared.references.Reference.{Reference}
use Rattle.txn_journal.specs.declared.assumptions.Assumption.{Assumption}
use Rattle.journal.specs.Journals.{JournalValue}
use Rattle.journal.specs.Writing.{is_image_writable}
use Rattle.row_images.specs.Words.{first_word, others}
use Rattle.journal_words.specs.Gtids.{source_of_word}
use Rattle.txn_journal.specs.Words.{name_of}
use Rattle.txn_journal.specs.Lines.{◌>>=◌, some_or_body, due, version_in, set_in, nothing_in, table_in, image_in}
use Rattle.txn_journal.specs.Machine.{Standing, empty, is_last, is_between, is_within, open_entry, close_entry, IsFull, IsInEntry, judge}
use Rattle.txn_journal.specs.Stamps.{right_stamp}
use Rattle.txn_journal.specs.Shapes.{added_table}
use Rattle.txn_journal.specs.declared.bundle.BundleChannel.{BundleChannel}
use Rattle.txn_journal.specs.declared.bundle_draft.Part.{Part}
use Rattle.txn_journal.specs.declared.bundle_draft.Part.TheVariants as parts
use Rattle.txn_journal.specs.declared.bundle_draft.Word.{Word}
use Rattle.txn_journal.specs.declared.bundle_draft.Word.TheVariants as words
use Rattle.txn_journal.specs.declared.fault.Cause.{Cause}
use Rattle.txn_journal.specs.declared.fault.Cause.TheVariants as causes
use Rattle.txn_journal.specs.declared.lines.Version.{Version}
use Rattle.txn_journal.specs.declared.lines.Version.TheVariants.{One}
use Rattle.txn_journal.specs.declared.lines.Due.{Due}
use Rattle.txn_journal.specs.declared.lines.Due.TheVariants.{Any, Only}

-- a replica, the set of GTIDs with which it begins, its tables and opening rows, what refers to keys of tables, its channels, each with the
-- journal that it brings, and what is assumed
pub record BundleValue : Type 0 where
  pub replica : ℕ
  pub opened : Gtids
  pub start : Database
  pub references : List Reference
  pub channels : List BundleChannel
  pub journals : List JournalValue
  pub assumptions : List Assumption

-- a bundle that has tables alone
abbrev pub bare : ℕ → Gtids → List Table → BundleValue
bare replica opened tables = record { replica = replica; opened = opened; start = record { schema = tables; rows = map.empty }; references = []; channels = []; journals = []; assumptions = [] }

-- What the lines so far have made. `due` is the version that is due, if not each known one is; the tables are in `tables` until the first
-- line after them.
pub record BundleStanding : Type 0 where
  pub part : Part
  pub due : Due
  pub version : Version
  pub tables : List Table
  pub bundle : BundleValue
  pub channel : Option BundleChannel
  pub draft : Standing

-- before the first line
abbrev pub no_bundle : Due → BundleStanding
no_bundle due = record { part = parts.Header; due = due; version = One; tables = []; bundle = bare 0 set.empty []; channel = None; draft = empty Any }

-- in version 3 the place of the entry that comes next may stand there
abbrev pub takes_places_in : Part → BundleStanding → Bool
takes_places_in parts.Journal s = is_between s.draft.place && has_log_places s.version
takes_places_in _ s = false

abbrev pub bundle_takes_places : BundleStanding → Bool
bundle_takes_places s = takes_places_in s.part s

-- the opening set has too many sources or intervals, or the journal of the channel that is open has seen too many
abbrev pub IsFullBundle : SetFault → BundleStanding → Type 0
IsFullBundle f s = IsFull f s.draft ⊎ IsFaultOf f s.bundle.opened

-- Sources are counted before memory is asked for at the line of the opening set and at the lines of a journal, but for the one that ends an
-- entry in version 2: its last_committed is computed first, which takes memory.
abbrev pub CountsFirst : BundleStanding → Type 0
CountsFirst s = (s.part ≡ parts.Opening) ⊎ ((s.part ≡ parts.Journal) × (IsInEntry s.draft → s.version ≡ One))

abbrev pub is_done : Part → Bool
is_done parts.Ended = true
is_done _ = false

-- ---- words

abbrev pub word_of : List ℕ → Option Word
word_of word =
    if bytes_eq word (codes "bundle") then Some words.Bundle
    else if bytes_eq word (codes "replica") then Some words.Replica
    else if bytes_eq word (codes "opening") then Some words.Opening
    else if bytes_eq word (codes "table") then Some words.Table
    else if bytes_eq word (codes "fk") then Some words.Reference
    else if bytes_eq word (codes "row") then Some words.Row
    else if bytes_eq word (codes "channel") then Some words.Channel
    else if bytes_eq word (codes "assume") then Some words.Assume
    else if bytes_eq word (codes "done") then Some words.Done
    else None

-- the words that a part has
abbrev pub is_in_part : Part → Word → Bool
is_in_part parts.Header words.Bundle = true
is_in_part parts.Replica words.Replica = true
is_in_part parts.Opening words.Opening = true
is_in_part parts.Tables words.Table = true
is_in_part parts.Tables words.Reference = true
is_in_part parts.Tables words.Row = true
is_in_part parts.Tables words.Channel = true
is_in_part parts.Tables words.Assume = true
is_in_part parts.Tables words.Done = true
is_in_part parts.References words.Reference = true
is_in_part parts.References words.Row = true
is_in_part parts.References words.Channel = true
is_in_part parts.References words.Assume = true
is_in_part parts.References words.Done = true
is_in_part parts.Rows words.Row = true
is_in_part parts.Rows words.Channel = true
is_in_part parts.Rows words.Assume = true
is_in_part parts.Rows words.Done = true
is_in_part parts.Channels words.Channel = true
is_in_part parts.Channels words.Assume = true
is_in_part parts.Channels words.Done = true
is_in_part parts.Assumptions words.Assume = true
is_in_part parts.Assumptions words.Done = true
is_in_part _ _ = false

-- the words that a version has
abbrev pub is_word_of : Version → Word → Bool
is_word_of version words.Reference = has_references version
is_word_of version words.Assume = has_references version
is_word_of version _ = true

-- the words that are due in a part of a text of this version
abbrev pub is_due_in : Version → Part → Word → Bool
is_due_in version part word = is_in_part part word && is_word_of version word

-- ---- the rest of a line

abbrev pub replica_in : Option (List ℕ) → Result ℕ Cause
replica_in None = Err causes.Body
replica_in (Some word) = some_or_body (source_of_word word)

abbrev pub preserve_in : Option (List ℕ) → Result Bool Cause
preserve_in None = Ok false
preserve_in (Some word) = if bytes_eq word (codes "preserve") then Ok true else Err causes.Body

unfoldable pub channel_in : Limits → Option (List ℕ) → Result BundleChannel Cause
channel_in limits None = Err causes.Body
channel_in limits (Some text) = do
  name ← some_or_body (name_of limits (first_word text))
  preserve ← preserve_in (others text)
  Ok (record { name = name; preserve = preserve })

-- ---- one line more

-- the tables and the references end here, if they have not ended yet
abbrev pub open_rows : Part → BundleStanding → BundleStanding
open_rows parts.Tables s = record s { part = parts.Rows; tables = []; bundle = bare s.bundle.replica s.bundle.opened s.tables }
open_rows parts.References s = record s { part = parts.Rows }
open_rows _ s = s

abbrev pub after_tables : BundleStanding → BundleStanding
after_tables s = open_rows s.part s

abbrev pub ok_rows : Result Rows RowFault → Result Rows Cause
ok_rows (Ok rows) = Ok rows
ok_rows (Err fault) = Err causes.Schema

-- one more opening row, if the schema takes it and no row carries one of its keys
unfoldable pub with_opening : Database → TableRow → Result Rows Cause
with_opening d r = if is_some (misfit d.schema (opening r.table r.row)) then Err causes.Schema else ok_rows (apply d.schema (opening r.table r.row) d.rows)

unfoldable pub put_row : BundleStanding → TableRow → Result BundleStanding Cause
put_row s r = do
  rows ← with_opening s.bundle.start r
  Ok (record s { bundle = record s.bundle { start = record s.bundle.start { rows = rows } } })

unfoldable pub version_line : BundleStanding → Option (List ℕ) → Result BundleStanding Cause
version_line s rest = do
  version ← version_in s.due rest
  Ok (record s { part = parts.Replica; version = version })

-- version 1 has no line of the opening set
abbrev pub after_replica : Version → Part
after_replica One = parts.Tables
after_replica _ = parts.Opening

unfoldable pub replica_line : BundleStanding → Option (List ℕ) → Result BundleStanding Cause
replica_line s rest = do
  replica ← replica_in rest
  Ok (record s { part = after_replica s.version; bundle = bare replica set.empty [] })

unfoldable pub opening_line : BundleStanding → Option (List ℕ) → Result BundleStanding Cause
opening_line s rest = do
  opened ← set_in rest
  Ok (record s { part = parts.Tables; bundle = bare s.bundle.replica opened [] })

unfoldable pub add_table_line : BundleStanding → Option (List ℕ) → Result BundleStanding Cause
add_table_line s None = Err causes.Body
add_table_line s (Some text) = do
  tables ← added_table (limits_of s.version) s.tables text
  Ok (record s { tables = tables })

-- one reference more
unfoldable pub put_reference : BundleStanding → ReferenceShape → Result BundleStanding Cause
put_reference s shape = do
  reference ← (if nat_le most_references (length s.bundle.references) then Err causes.Limit else reference_to s.bundle.start.schema shape)
  Ok (record s { part = parts.References; bundle = record s.bundle { references = s.bundle.references ++ reference ∷ [] } })

unfoldable pub reference_line : BundleStanding → Option (List ℕ) → Result BundleStanding Cause
reference_line s rest = do
  shape ← reference_behind (limits_of s.version) rest
  put_reference (after_tables s) shape

-- one more opening row, if it is within the limits
abbrev pub put_within : BundleStanding → TableRow → Result BundleStanding Cause
put_within s r = if is_image_writable (limits_of s.version) r.row then put_row (after_tables s) r else Err causes.Limit

unfoldable pub row_line : BundleStanding → Option (List ℕ) → Result BundleStanding Cause
row_line s rest = do
  table ← table_in (limits_of s.version) rest
  row ← image_in table.1
  put_within s (record { table = table.0; row = row })

unfoldable pub join_channel : BundleStanding → BundleChannel → Result BundleStanding Cause
join_channel s channel =
    if nat_le 256 (length s.bundle.channels) then Err causes.Limit
    else if has_channel s.bundle.channels channel.name then Err causes.Schema
    else Ok (record (after_tables s) { part = parts.Journal; channel = Some channel; draft = empty (Only s.version) })

unfoldable pub channel_line : BundleStanding → Option (List ℕ) → Result BundleStanding Cause
channel_line s rest = do
  channel ← channel_in (limits_of s.version) rest
  join_channel s channel

-- one assumption more
unfoldable pub put_assumption : BundleStanding → Assumption → Result BundleStanding Cause
put_assumption s a =
    if nat_le most_assumptions (length s.bundle.assumptions) then Err causes.Limit
    else if may_assume s.bundle.opened s.bundle.start s.bundle.channels s.bundle.journals a
    then Ok (record s { part = parts.Assumptions; bundle = record s.bundle { assumptions = s.bundle.assumptions ++ a ∷ [] } })
    else Err causes.Schema

unfoldable pub assume_line : BundleStanding → Option (List ℕ) → Result BundleStanding Cause
assume_line s rest = do
  a ← next_assumption (limits_of s.version) (after_tables s).bundle.assumptions rest
  put_assumption (after_tables s) a

unfoldable pub done_line : BundleStanding → Option (List ℕ) → Result BundleStanding Cause
done_line s rest = do
  nothing ← nothing_in rest
  Ok (record (after_tables s) { part = parts.Ended })

unfoldable pub own_step : BundleStanding → Word → Option (List ℕ) → Result BundleStanding Cause
own_step s words.Bundle rest = version_line s rest
own_step s words.Replica rest = replica_line s rest
own_step s words.Opening rest = opening_line s rest
own_step s words.Table rest = add_table_line s rest
own_step s words.Reference rest = reference_line s rest
own_step s words.Row rest = row_line s rest
own_step s words.Channel rest = channel_line s rest
own_step s words.Assume rest = assume_line s rest
own_step s words.Done rest = done_line s rest

-- a line of the bundle's own
unfoldable pub judge_own : BundleStanding → List ℕ → Result BundleStanding Cause
judge_own s line = do
  word ← due (is_due_in s.version s.part) (word_of (first_word line))
  own_step s word (others line)

-- the channel that is open joins the others with its journal
abbrev pub with_journal : Option BundleChannel → BundleValue → JournalValue → BundleValue
with_journal None b journal = b
with_journal (Some channel) b journal = record b { channels = b.channels ++ channel ∷ []; journals = b.journals ++ journal ∷ [] }

abbrev pub close_channel : BundleStanding → Standing → BundleStanding
close_channel s draft = record s { part = parts.Channels; bundle = with_journal s.channel s.bundle draft.journal; channel = None; draft = empty (Only s.version) }

unfoldable pub after_inner : BundleStanding → Standing → BundleStanding
after_inner s draft = if is_last draft.place then close_channel s draft else record s { draft = draft }

-- the entry that was open has ended, with another last_committed than it has to have
abbrev pub is_misstamped : Version → List Table → Standing → Standing → Bool
is_misstamped version tables s draft = is_within s.place && (not (is_within draft.place) && not (s.stamp == right_stamp version tables s.journal.entries (open_entry s)))

-- what is taken, whether entries are tested as a whole or not
abbrev pub unless_misstamped : Bool → BundleStanding → Standing → Result BundleStanding Cause
unless_misstamped whole s draft = if whole && is_misstamped s.version s.bundle.start.schema s.draft draft then Err causes.Stamp else Ok (after_inner s draft)

-- the entry that is open ends
unfoldable pub end_entry : BundleStanding → Result BundleStanding Cause
end_entry s =
    if s.draft.stamp == right_stamp s.version s.bundle.start.schema s.draft.journal.entries (open_entry s.draft)
    then Ok (record s { draft = close_entry s.draft })
    else Err causes.Stamp

-- a line of the open channel's journal
unfoldable pub judge_inner : Bool → BundleStanding → List ℕ → Result BundleStanding Cause
judge_inner whole s line = do
  draft ← judge (Some s.bundle.start.schema) s.draft line
  unless_misstamped whole s draft

abbrev pub judge_part : Part → Bool → BundleStanding → List ℕ → Result BundleStanding Cause
judge_part parts.Journal whole s line = judge_inner whole s line
judge_part _ whole s line = judge_own s line

abbrev pub judge_by : Bool → BundleStanding → List ℕ → Result BundleStanding Cause
judge_by whole s line = judge_part s.part whole s line

-- a line at its place
unfoldable pub judge_bundle : BundleStanding → List ℕ → Result BundleStanding Cause
judge_bundle s line = judge_by true s line
