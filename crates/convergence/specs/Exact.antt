-- The laws of logs.
use Rattle.std.specs.Prelude.{◌≡◌, ℕ, List, ◌++◌, Some, Ok, slice_get}
use Rattle.std.specs.FinSet as set
use Rattle.gtid_set.specs.Sets.{Gtids}
use Rattle.rows.specs.Apply.{Rows}
use Rattle.rows.specs.Carriers.{AreCarriers}
use Rattle.journal.specs.declared.Entry.{Entry}
use Rattle.journal.specs.Journals.{gtids_of, AreNew}
use Rattle.replica_core.specs.declared.event.Event.{Event}
use Rattle.replica_core.specs.State.{State, Site}
use Rattle.replica_core.specs.Machine.{opening, after}
use Rattle.rows.specs.Counting.{apply_each}
use Rattle.convergence.specs.Logs.{log, transactions}
use Rattle.world.specs.Exact.{AgreeInContents}

-- What a replica holds that was opened with this set and these rows, and has committed a log since.
pub record IsOfLog (site : Site) (opened : Gtids) (opening_rows : Rows) (entries : List Entry) (s : State) : Type 0 where
  -- the log applies to the opening rows, and leaves the rows
  pub rows : apply_each site.schema (transactions entries) opening_rows ≡ Ok s.rows
  -- what is executed was so from the start, or is in the log
  pub executed : s.executed ≡ set.union opened (gtids_of entries)
  -- each GTID of the log was not executed before
  pub new : AreNew opened entries
  -- the own journal is what is left of the log
  pub journal : (purged : List Entry) × (purged ++ s.journal.entries ≡ entries)

-- In every run from an opening.
abbrev pub RunsAreOfLogs : Type 0
RunsAreOfLogs = (site : Site) (opened : Gtids) (rows : Rows) (events : List Event)
    → IsOfLog site opened rows (log site (opening opened rows) events) (after site (opening opened rows) events)

-- Two runs from one opening, whose logs agree in contents: if the executed sets are equal, so are the rows. Nothing is required of keys,
-- nor of what the runs received.
abbrev pub LogsDecideRows : Type 0
LogsDecideRows = (a b : Site) (opened : Gtids) (rows : Rows) (es fs : List Event)
    → a.schema ≡ b.schema → AreCarriers a.schema rows
    → AgreeInContents (log a (opening opened rows) es) (log b (opening opened rows) fs)
    → (after a (opening opened rows) es).executed ≡ (after b (opening opened rows) fs).executed
    → (after a (opening opened rows) es).rows ≡ (after b (opening opened rows) fs).rows
