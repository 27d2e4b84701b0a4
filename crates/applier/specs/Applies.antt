-- What a worker adds to a pass.
use Rattle.std.specs.Prelude.{◌≡◌, ⊤, ℕ, ◌<◌, List, [], ◌∷◌, ◌++◌, length, slice_index_or}
use Rattle.replica_core.specs.declared.event.Event.{Event}
use Rattle.replica_core.specs.declared.event.Event.TheVariants.{Take, Commit, Rollback}
use Rattle.shared_replica.specs.declared.step.Receipt.{Receipt}
use Rattle.shared_replica.specs.Passes.{PassValue}

-- a take, a commit or a rollback
abbrev pub IsApply : Event → Type 0
IsApply (Take seat channel place) = ⊤
IsApply (Commit seat) = ⊤
IsApply (Rollback seat) = ⊤
IsApply _ = ⊥

abbrev pub AreApply : List Receipt → Type 0
AreApply [] = ⊤
AreApply (r ∷ rs) = IsApply r.step.event × AreApply rs

-- the same seat, whose earlier receipts are a prefix; the others are of takes, commits and rollbacks
pub record GoesOn (old new : PassValue) : Type 0 where
  pub seat : new.seat ≡ old.seat
  pub more : List Receipt
  pub receipts : new.receipts ≡ old.receipts ++ more
  pub apply : AreApply more

-- each pass is continued by the one at its place
abbrev pub AllGoOn : List PassValue → List PassValue → Type 0
AllGoOn old new = (i : ℕ) (d : PassValue) → i < length old → GoesOn (slice_index_or old i d) (slice_index_or new i d)
