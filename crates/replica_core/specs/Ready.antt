-- What a Commit has ready.
use Rattle.std.specs.Prelude.{◌≡◌, ℕ, true, Some}
use Rattle.rows.specs.Apply.{apply}
use Rattle.replica_core.specs.declared.commit.ReadyCommit.{ReadyCommit}
use Rattle.replica_core.specs.State.{Replica}
use Rattle.replica_core.specs.Machine.{is_seat, commit, commit_answer}
use Rattle.replica_core.specs.Committing.{IsCommittable}

pub record IsReady (r : Replica) (seat : ℕ) (x : ReadyCommit) : Type 0 where
  pub answer : commit r.site seat r.state ≡ commit_answer x.entry.gtid x.entry.txn seat x.spot.channel r.state (apply r.site.schema x.entry.txn r.state.rows)
  pub is_one : is_seat seat ≡ true
  pub may : IsCommittable r (Some seat) x.entry
  pub txn : x.txn ≡ x.entry.txn
