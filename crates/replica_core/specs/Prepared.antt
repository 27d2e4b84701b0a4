-- What a worker may prepare without the lock.
use Rattle.std.specs.Prelude.{◌≡◌, ℕ, length, Option, Some, None, option_map, if◌then◌else◌}
use Rattle.rows.specs.declared.change.Transaction.{Transaction}
use Rattle.rows.specs.Fits.{Fits}
use Rattle.rows.specs.Patch.{IsAsSeen, SeesAll}
use Rattle.rows.specs.Prepared.{Sight}
use Rattle.replica_core.specs.State.{State, Replica}
use Rattle.replica_core.specs.Machine.{is_seat, held}

-- the transaction that a seat holds
abbrev pub held_txn : State → ℕ → Option Transaction
held_txn s seat = if is_seat seat then option_map (λ h. h.txn) (held s seat) else None

-- how many changes a transaction has
abbrev pub changes_of : Transaction → ℕ
changes_of t = length t.changes

-- the transaction that a seat holds, which the schema takes, with a sight of all keys that it touches, as they are carried now
pub record IsSightOf (r : Replica) (seat : ℕ) (t : Transaction) (sight : Sight) : Type 0 where
  pub held : held_txn r.state seat ≡ Some t
  pub fits : Fits r.site.schema t
  pub schema : sight.schema ≡ r.site.schema
  pub all : SeesAll r.site.schema t sight.seen
  pub seen : IsAsSeen sight.seen r.state.rows
