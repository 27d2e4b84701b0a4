-- What one event of a replica can do to its rows, its executed set, its own journal and what waits.
use Rattle.std.proofs.Common.{◌≡◌, false, ◌⊎◌, List, [], ◌∷◌, ◌++◌, Ok}
use Rattle.std.specs.FinSet as set
use Rattle.rows.specs.Apply.{apply}
use Rattle.journal.specs.declared.Entry.{Entry}
use Rattle.replica_core.specs.declared.event.Event.{Event}
use Rattle.replica_core.specs.declared.event.Reply.{Reply}
use Rattle.replica_core.specs.State.{State, Site}
use Rattle.replica_core.specs.Machine.{Step}
use Rattle.convergence.specs.Served.{accepted_entries, committed_here}
use Rattle.convergence.proofs.Invariant.{IsIn}
use Rattle.convergence.specs.Logs.{committed}
use Rattle.convergence.proofs.Waiting.{Waits}

-- nothing is committed
pub record Rests (s s' : State) (made : List Entry) : Type 0 where
  pub none : made ≡ []
  pub rows : s'.rows ≡ s.rows
  pub executed : s'.executed ≡ s.executed
  pub purged : List Entry
  pub journal : purged ++ s'.journal.entries ≡ s.journal.entries

-- one transaction is committed, which waited or is the event's own
pub record Commits (site : Site) (s s' : State) (event : Event) (reply : Reply) (made : List Entry) : Type 0 where
  pub entry : Entry
  pub one : made ≡ entry ∷ []
  pub applies : apply site.schema entry.txn s.rows ≡ Ok s'.rows
  pub executed : s'.executed ≡ set.insert s.executed entry.gtid
  pub journal : s'.journal.entries ≡ s.journal.entries ++ entry ∷ []
  pub origin : Waits s.channels entry ⊎ (IsIn entry (committed_here event reply) × (set.contains s.executed entry.gtid ≡ false))

-- what waits after an event waited before it, or came with it and is not executed; and no more is executed of it
pub record Came (s s' : State) (event : Event) (reply : Reply) (x : Entry) : Type 0 where
  pub from : Waits s.channels x ⊎ (IsIn x (accepted_entries event reply) × (set.contains s.executed x.gtid ≡ false))
  pub executed : set.contains s'.executed x.gtid ≡ set.contains s.executed x.gtid

pub record Tells (site : Site) (s : State) (event : Event) (after : Step) : Type 0 where
  pub came : (x : Entry) → Waits after.1.channels x → Came s after.1 event after.0 x
  pub made : Rests s after.1 (committed s event after.0) ⊎ Commits site s after.1 event after.0 (committed s event after.0)
