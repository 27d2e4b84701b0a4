-- Faithful journals: what they have was committed, and is in an order that keeps the order of what conflicts.
use Rattle.std.specs.Prelude.{◌≡◌, ℕ, ◌≤◌, false, length, take, Some}
use Rattle.std.specs.List.{AllByRecursion}
use Rattle.std.specs.FinSet as set
use Rattle.gtid_set.specs.Sets.{Gtids}
use Rattle.journal.specs.declared.Entry.{Entry}
use Rattle.journal.specs.Journals.{JournalValue, gtids_of, AreNew}
use Rattle.history.specs.World.{OrderedWorld, content, is_opened, IsClosed}

-- the opening set with the previous set and this many of the first entries
abbrev pub front : OrderedWorld → JournalValue → ℕ → Gtids
front world journal k = set.union world.opening_set (set.union journal.previous (gtids_of (take k journal.entries)))

-- Each prefix is closed, each entry beyond the opening set has the content of its GTID, and no GTID occurs twice or in the
-- previous set.
pub record IsFaithful (world : OrderedWorld) (journal : JournalValue) : Type 0 where
  pub fronts : (k : ℕ) → k ≤ length journal.entries → IsClosed world (set.contains (front world journal k))
  pub contents : AllByRecursion (λ (e : Entry). is_opened world e.gtid ≡ false → content world e.gtid ≡ Some e.txn) journal.entries
  pub new : AreNew journal.previous journal.entries
