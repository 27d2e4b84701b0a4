-- Steps whose reply is not known yet.
use Rattle.std.specs.Prelude.{◌≡◌}
use Rattle.replica_core.specs.declared.event.Event.{Event}
use Rattle.replica_core.specs.State.{Replica}
use Rattle.replica_core.specs.Machine.{step}
use Rattle.shared_replica.specs.declared.draft.StepDraft.{StepDraft}
use Rattle.shared_replica.specs.Spare.{IsSpare}

-- the event, and the set that the reply will show once the replica makes this step
pub record IsDraft (now : Replica) (event : Event) (draft : StepDraft) : Type 0 where
  pub copy : draft.event ≡ event
  pub spare : IsSpare (step now.site now.state event).0 draft.spare
