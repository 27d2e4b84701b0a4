-- Committing an entry.
use Rattle.std.specs.Prelude.{◌≡◌, ℕ, true, false, Option, Ok, Err}
use Rattle.std.specs.FinSet as set
use Rattle.rows.specs.declared.change.RowFault.{RowFault}
use Rattle.rows.specs.Apply.{apply}
use Rattle.rows.specs.Fits.{Fits}
use Rattle.journal.specs.declared.Entry.{Entry}
use Rattle.journal.specs.Writing.{is_number}
use Rattle.replica_core.specs.State.{State, Replica}
use Rattle.replica_core.specs.Seated.{IsUnowned, IsFreeable, freed_of}
use Rattle.replica_core.specs.Machine.{execute}

-- the state in which a seat was freed, if one is named
abbrev pub free_seat : Option ℕ → State → State
free_seat freed s = record s { seats = freed_of freed s.seats }

-- an entry that may be committed, while a seat is freed: its GTID is new, the schema takes its transaction, and no other seat has a place
-- of that GTID
pub record IsCommittable (r : Replica) (freed : Option ℕ) (e : Entry) : Type 0 where
  pub new : set.contains r.state.executed e.gtid ≡ false
  pub fits : Fits r.site.schema e.txn
  pub number : is_number e.gtid.number ≡ true
  pub seat : IsFreeable freed
  pub alone : IsUnowned r.state.channels (freed_of freed r.state.seats) e.gtid

-- an entry is executed
pub record Executes (old : Replica) (freed : Option ℕ) (e : Entry) (new : Replica) : Type 0 where
  pub applied : apply old.site.schema e.txn old.state.rows ≡ Ok new.state.rows
  pub state : new.state ≡ execute (free_seat freed old.state) e.gtid e.txn new.state.rows
  pub site : new.site ≡ old.site

-- its transaction does not apply, and nothing has changed
pub record RefusedBy (old : Replica) (e : Entry) (new : Replica) (fault : RowFault) : Type 0 where
  pub refused : apply old.site.schema e.txn old.state.rows ≡ Err fault
  pub same : new ≡ old
