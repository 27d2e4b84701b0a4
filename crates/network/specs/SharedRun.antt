-- A small run without a premise on keys: two nodes write one key side by side, and each then commits what the other wrote.
use Rattle.std.specs.Prelude.{◌≡◌, ◌≢◌, ℕ, true, false, List, [], ◌∷◌, map}
use Rattle.gtid_set.specs.Sets.{Gtids}
use Rattle.rows.specs.declared.change.Change.TheVariants.{Update}
use Rattle.rows.specs.declared.change.Transaction.{Transaction}
use Rattle.rows.specs.Carriers.{AreCarriers}
use Rattle.rows.specs.SharedOrders.{accounts, account, one_account}
use Rattle.rows.specs.WriteSet.{shares_key}
use Rattle.journal.specs.declared.Entry.{Entry}
use Rattle.journal.specs.Journals.{gtids_of}
use Rattle.replica_core.specs.declared.event.Event.TheVariants.{OpenChannel, Local, Take, Commit}
use Rattle.history.specs.SmallWorld.{nth_of}
use Rattle.network.specs.declared.event.NetworkEvent.{NetworkEvent}
use Rattle.network.specs.declared.event.NetworkEvent.TheVariants.{Act, Position, Receive}
use Rattle.network.specs.Nodes.{Node, ids_distinct}
use Rattle.network.specs.Runs.{NetworkRun, IsRunInTurn, end, run_locals}
use Rattle.network.specs.Exact.{node_log}

-- account 1 goes from a balance of 10 to another and back, in one transaction
abbrev pub there_and_back : ℕ → Transaction
there_and_back y = record { changes = Update accounts.name (account 1 10) (account 1 y) ∷ Update accounts.name (account 1 y) (account 1 10) ∷ [] }

-- what the first node commits by Local, and what the second does
abbrev pub by_first : Entry
by_first = record { gtid = nth_of 1 1; txn = there_and_back 20 }

abbrev pub by_second : Entry
by_second = record { gtid = nth_of 2 1; txn = there_and_back 30 }

-- Each node reads the other. Both commit by Local, and then each receives and commits what the other has committed.
abbrev pub shared_events : List NetworkEvent
shared_events =
    Act 0 (OpenChannel (98 ∷ []) false) ∷ Position 0 0 1
    ∷ Act 1 (OpenChannel (97 ∷ []) false) ∷ Position 1 0 0
    ∷ Act 0 (Local by_first.txn) ∷ Act 1 (Local by_second.txn)
    ∷ Receive 0 0 ∷ Act 0 (Take 1 0 0) ∷ Receive 1 0 ∷ Act 1 (Take 1 0 0)
    ∷ Act 0 (Commit 1) ∷ Act 1 (Commit 1) ∷ []

abbrev pub shared_run : NetworkRun
shared_run = record { ids = 1 ∷ 2 ∷ []; schema = accounts ∷ []; rows = one_account; events = shared_events }

abbrev pub executed_at : Node → Gtids
executed_at node = node.replica.state.executed

-- There is a run of a network in which two nodes write one key, the second without having executed what the first wrote. Each node commits
-- both transactions, its own first, and both end with equal executed sets.
pub record SharedRunsExist : Type 0 where
  pub distinct : ids_distinct shared_run.ids ≡ true
  pub carriers : AreCarriers shared_run.schema shared_run.rows
  pub commits : run_locals shared_run ≡ by_first ∷ by_second ∷ []
  pub shared : shares_key shared_run.schema by_first.txn by_second.txn ≡ true
  pub not_in_turn : ¬ (IsRunInTurn shared_run)
  pub first_log : node_log shared_run 0 1 ≡ by_first ∷ by_second ∷ []
  pub second_log : node_log shared_run 1 2 ≡ by_second ∷ by_first ∷ []
  pub differ : node_log shared_run 0 1 ≢ node_log shared_run 1 2
  -- both nodes have executed what was committed by Local
  pub executed : map executed_at (end shared_run) ≡ gtids_of (run_locals shared_run) ∷ gtids_of (run_locals shared_run) ∷ []
