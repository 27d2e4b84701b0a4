-- A history: the steps that were made from an opening, each with its reply.
use Rattle.std.specs.Prelude.{◌≡◌, ℕ, ◌+◌, Bool, true, false, List, [], ◌∷◌, ◌++◌, map, length}
use Rattle.std.specs.List.{sum_by}
use Rattle.std.specs.FinSet as set
use Rattle.commit_ledger.specs.Tallies.{Tally, one_if}
use Rattle.replica_core.specs.declared.event.Event.{Event}
use Rattle.replica_core.specs.declared.event.Reply.{Reply}
use Rattle.replica_core.specs.declared.event.Reply.TheVariants.{Committed}
use Rattle.replica_core.specs.State.{Replica}
use Rattle.replica_core.specs.Machine.{step, replies, after}
use Rattle.shared_replica.specs.declared.step.Step.{Step}

abbrev pub line : Event → Reply → Step
line event reply = record { event = event; reply = reply }

abbrev pub events_of : List Step → List Event
events_of steps = map (λ s. s.event) steps

abbrev pub replies_of : List Step → List Reply
replies_of steps = map (λ s. s.reply) steps

-- whether a reply is Committed
abbrev pub is_commit : Reply → Bool
is_commit (Committed gtid) = true
is_commit _ = false

-- how many of the steps have the reply Committed
abbrev pub commits_in : List Step → ℕ
commits_in steps = sum_by (λ s. one_if (is_commit s.reply)) steps

-- how many steps there are, and how many of them have the reply Committed
abbrev pub tally_in : List Step → Tally
tally_in steps = record { steps = length steps; commits = commits_in steps }

-- what one event does to a replica: its reply, and the replica that it leaves
pub record IsStep (old : Replica) (event : Event) (reply : Reply) (new : Replica) : Type 0 where
  pub site : new.site ≡ old.site
  pub makes : (reply, new.state) ≡ step old.site old.state event

-- the steps are what the machine does from the opening, reply for reply, and leave this replica
pub record IsReplay (opening : Replica) (steps : List Step) (now : Replica) : Type 0 where
  pub site : now.site ≡ opening.site
  pub replies : replies_of steps ≡ replies opening.site opening.state (events_of steps)
  pub state : now.state ≡ after opening.site opening.state (events_of steps)

-- the executed set has grown by as many GTIDs as there are steps with the reply Committed
abbrev pub HasGrown : Replica → List Step → Replica → Type 0
HasGrown opening steps now = set.len now.state.executed ≡ set.len opening.state.executed + commits_in steps

-- the invariant of a book: its steps are the machine's, and its total counts them
pub record IsBook (opening : Replica) (steps : List Step) (now : Replica) (total : Tally) : Type 0 where
  pub legal : IsReplay opening steps now
  pub counted : total ≡ tally_in steps
  pub grown : HasGrown opening steps now

-- an opening, the steps made since, and the replica now
pub record BookValue : Type 0 where
  pub opening : Replica
  pub steps : List Step
  pub now : Replica

-- a book before any step
abbrev pub book_at_start : Replica → BookValue
book_at_start opening = record { opening = opening; steps = []; now = opening }

-- a book with one step more
abbrev pub with_step : Event → Reply → Replica → BookValue → BookValue
with_step event reply now book = record { opening = book.opening; steps = book.steps ++ line event reply ∷ []; now = now }
