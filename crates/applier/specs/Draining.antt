-- What draining adds to a closed book, and why it may fail.
use Rattle.std.specs.Prelude.{◌≡◌, ℕ, ⊤, List, [], ◌∷◌, ◌++◌}
use Rattle.gtid_set.specs.declared.fault.SetFault.{SetFault}
use Rattle.replica_core.specs.State.{State}
use Rattle.replica_core.specs.Faults.{IsFaultIn, committed_set}
use Rattle.shared_replica.specs.declared.step.Step.{Step}
use Rattle.shared_replica.specs.Closing.{ClosedValue}
use Rattle.applier.specs.Applies.{IsApply}

abbrev pub AllApply : List Step → Type 0
AllApply [] = ⊤
AllApply (s ∷ ss) = IsApply s.event × AllApply ss

-- the steps that were added are takes, commits and rollbacks, and have no receipts
pub record Drains (old new : ClosedValue) : Type 0 where
  pub opening : new.opening ≡ old.opening
  pub more : List Step
  pub steps : new.steps ≡ old.steps ++ more
  pub apply : AllApply more
  pub sheets : new.sheets ≡ old.sheets
  pub counts : new.counts ≡ old.counts

-- a fault that a Commit of some seat may have: out of memory, or the executed set would have too many sources or intervals
abbrev pub IsCommitFault : SetFault → State → Type 0
IsCommitFault f s = (seat : ℕ) × IsFaultIn f (committed_set seat s)
