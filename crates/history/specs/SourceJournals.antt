-- Journals that are faithful to their sources.
use Rattle.std.specs.Prelude.{◌≡◌, ℕ, ◌≤◌, false, length, Some}
use Rattle.std.specs.List.{AllByRecursion}
use Rattle.std.specs.FinSet as set
use Rattle.journal.specs.declared.Entry.{Entry}
use Rattle.journal.specs.Journals.{JournalValue, AreNew}
use Rattle.history.specs.Faithful as ordered
use Rattle.history.specs.Sources.{World, content, is_opened, in_order, IsClosedBySource}

abbrev pub IsFaithful : World → JournalValue → Type 0
IsFaithful world journal = ordered.IsFaithful (in_order world) journal

-- The same in the words of sources: each prefix is closed by source, each entry beyond the opening set is what its source committed, and no
-- GTID occurs twice or in the previous set.
pub record IsFaithfulBySource (world : World) (journal : JournalValue) : Type 0 where
  pub fronts : (k : ℕ) → k ≤ length journal.entries → IsClosedBySource world (set.contains (ordered.front (in_order world) journal k))
  pub contents : AllByRecursion (λ (e : Entry). is_opened world e.gtid ≡ false → content world e.gtid ≡ Some e.txn) journal.entries
  pub new : AreNew journal.previous journal.entries
