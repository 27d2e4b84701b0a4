-- Why a set was not made of the GTIDs of entries, which are added one after another.
use Rattle.std.specs.Prelude.{ℕ, ◌≤◌, List, take}
use Rattle.std.specs.FinSet as set
use Rattle.gtid_set.specs.declared.fault.SetFault.{SetFault}
use Rattle.gtid_set.specs.Sets.{Gtids}
use Rattle.gtid_set.specs.Full.{HasManySources, HasManyIntervals, IsMemoryOr}
use Rattle.journal.specs.declared.Entry.{Entry}
use Rattle.journal.specs.Journals.{JournalValue, gtids_of, previous_after_purge}

-- Memory was refused, or the set would have too many sources, or too many intervals once some of the entries are added. Memory may be
-- refused for an entry before the one whose source is too many.
abbrev pub IsAddingFault : SetFault → Gtids → List Entry → Type 0
IsAddingFault f s entries = IsMemoryOr (HasManySources (set.union s (gtids_of entries))) ((n : ℕ) × HasManyIntervals (set.union s (gtids_of (take n entries)))) f

-- the same of the previous set once the first entries are purged: it is the set with some of them that has too many intervals
abbrev pub IsPurgedFault : SetFault → ℕ → JournalValue → Type 0
IsPurgedFault f count journal = IsMemoryOr (HasManySources (previous_after_purge count journal)) ((n : ℕ) × (n ≤ count) × HasManyIntervals (previous_after_purge n journal)) f
