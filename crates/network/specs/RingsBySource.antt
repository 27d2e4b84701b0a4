-- The merge theorem for networks whose nodes' own commits don't conflict, in the words of sources and numbers.
use Rattle.std.specs.Prelude.{◌≡◌, ℕ, true, List, [], ◌∷◌, Some, slice_get}
use Rattle.std.specs.FinMap.{FinMap, empty, insert}
use Rattle.std.specs.FinSet as set
use Rattle.gtid_text.specs.Gtids.{gtid_cmp}
use Rattle.rows.specs.declared.change.Transaction.{Transaction}
use Rattle.journal.specs.declared.Entry.{Entry}
use Rattle.history.specs.Sources.{World, IsSound}
use Rattle.convergence.specs.FaithfulToSources.{IsFaithfulRun, IsMergedBySource}
use Rattle.network.specs.Nodes.{Node, ids_distinct}
use Rattle.network.specs.Runs.{NetworkRun, AreApart, end, run_locals, run_of}
use Rattle.network.specs.Rings.{site_of}

-- what was committed, by GTIDs
abbrev pub contents_of : List Entry → FinMap gtid_cmp Transaction
contents_of [] = empty
contents_of (e ∷ es) = insert (contents_of es) e.gtid e.txn

-- the world of what each node committed by Local under its own UUID
abbrev pub sources_of : NetworkRun → World
sources_of run = record { schema = run.schema; opening_set = set.empty; opening_rows = run.rows; contents = contents_of (run_locals run) }

-- In the words of sources: what each node committed, taken alone, applies to the opening rows, its numbers are from 1 on without a gap,
-- and nothing of two nodes conflicts; the run of each node is a faithful run of that world; and what it holds is merged, its own journal
-- faithful by source.
pub record AreMergedBySource (run : NetworkRun) : Type 0 where
  pub sound : IsSound (sources_of run)
  pub faithful : (i own : ℕ) → slice_get run.ids i ≡ Some own → IsFaithfulRun (sources_of run) (site_of run own) set.empty run.rows (run_of run i)
  pub merged : (i : ℕ) (node : Node) → slice_get (end run) i ≡ Some node → IsMergedBySource (sources_of run) node.replica.state

-- After every run of a network of different UUIDs in which what is committed by Local at different nodes doesn't conflict.
abbrev pub RingsMergeBySource : Type 0
RingsMergeBySource = (run : NetworkRun) → ids_distinct run.ids ≡ true → AreApart run.schema (run_locals run) → AreMergedBySource run
