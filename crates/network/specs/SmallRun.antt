-- A small run that meets the premises of the theorem: each of two nodes commits a transaction of its own.
use Rattle.std.specs.Prelude.{◌≡◌, true, List, [], ◌∷◌}
use Rattle.std.specs.FinMap as map
use Rattle.journal.specs.declared.Entry.{Entry}
use Rattle.replica_core.specs.declared.event.Event.TheVariants.{Local}
use Rattle.history.specs.SmallWorld.{accounts, nth_of, opens_first, opens_second}
use Rattle.network.specs.declared.event.NetworkEvent.TheVariants.{Act}
use Rattle.network.specs.Nodes.{ids_distinct}
use Rattle.network.specs.Runs.{NetworkRun, AreApart, run_locals}

abbrev pub small_run : NetworkRun
small_run = record {
  ids = 1 ∷ 2 ∷ [];
  schema = accounts ∷ [];
  rows = map.empty;
  events = Act 0 (Local opens_first) ∷ Act 1 (Local opens_second) ∷ [];
}

abbrev pub small_commits : List Entry
small_commits = record { gtid = nth_of 1 1; txn = opens_first } ∷ record { gtid = nth_of 2 1; txn = opens_second } ∷ []

-- There is a run of a network of different UUIDs in which two nodes commit by Local, and what they commit shares no key.
pub record ApartRunsExist : Type 0 where
  pub distinct : ids_distinct small_run.ids ≡ true
  pub commits : run_locals small_run ≡ small_commits
  pub apart : AreApart small_run.schema (run_locals small_run)
