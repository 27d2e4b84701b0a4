-- What a pass holds, and how a call changes it.
use Rattle.std.specs.Prelude.{◌≡◌, ℕ, ◌+◌, List, [], ◌∷◌, ◌++◌, Result, MatchResult}
use Rattle.commit_ledger.specs.Tallies.{one_if}
use Rattle.gtid_set.specs.declared.fault.SetFault.{SetFault}
use Rattle.replica_core.specs.State.{Replica}
use Rattle.replica_core.specs.declared.event.Event.{Event}
use Rattle.replica_core.specs.declared.event.Event.TheVariants.{Take}
use Rattle.replica_core.specs.declared.event.Reply.{Reply}
use Rattle.shared_replica.specs.declared.step.Receipt.{Receipt}
use Rattle.shared_replica.specs.declared.taking.Taking.{Taking}
use Rattle.shared_replica.specs.Faults.{IsFaultFor}
use Rattle.shared_replica.specs.History.{line, is_commit}

-- the seat, what its share has counted, and its receipts
pub record PassValue : Type 0 where
  pub seat : ℕ
  pub steps : ℕ
  pub commits : ℕ
  pub receipts : List Receipt

abbrev pub fresh : ℕ → PassValue
fresh seat = record { seat = seat; steps = 0; commits = 0; receipts = [] }

abbrev pub receipt : ℕ → Event → Reply → Receipt
receipt place event reply = record { place = place; step = line event reply }

-- the pass after a call whose step is at this place
abbrev pub pass_after_call : ℕ → Event → Reply → PassValue → PassValue
pass_after_call place event reply p =
    record { seat = p.seat; steps = p.steps + 1; commits = p.commits + one_if (is_commit reply); receipts = p.receipts ++ receipt place event reply ∷ [] }

-- the pass after a call that made this event and had this reply: one step more in its share, and one receipt
abbrev pub HasReceipt : PassValue → Event → Reply → PassValue → Type 0
HasReceipt old event reply new = (place : ℕ) × (new ≡ pass_after_call place event reply old)

-- a call that makes this event: the pass has the step with its reply; or it is as before, and the fault is one that the event may have
abbrev pub Makes : Event → PassValue → Result Reply SetFault → PassValue → Type 0
Makes event old result new = MatchResult result (λ reply. HasReceipt old event reply new) (λ fault. (new ≡ old) × IsFaultFor event fault)

-- a call that makes the event Take and gives what its worker needs besides
abbrev pub MakesTaking : ℕ → ℕ → PassValue → Result Taking SetFault → PassValue → Type 0
MakesTaking channel place old result new =
    MatchResult result (λ taking. HasReceipt old (Take old.seat channel place) taking.reply new) (λ fault. (new ≡ old) × IsFaultFor (Take old.seat channel place) fault)

-- the core that was handed in, and the number of seats
pub record SharedValue : Type 0 where
  pub opening : Replica
  pub seats : ℕ
