-- What keeps a journal faithful, and what a faithful journal gives.
use Rattle.std.specs.Prelude.{◌≡◌, ℕ, ◌≤◌, false, [], ◌∷◌, ◌++◌, length, take, drop, Some, IsOk}
use Rattle.std.specs.FinSet as set
use Rattle.gtid_set.specs.Sets.{Gtids}
use Rattle.journal.specs.declared.Entry.{Entry}
use Rattle.journal.specs.Journals.{JournalValue, gtids_of, whole}
use Rattle.history.specs.World.{OrderedWorld, content, rows_of, IsSound, IsClosed}
use Rattle.history.specs.Faithful.{IsFaithful}

-- the opening set with all that a journal has a record of
abbrev pub known_to : OrderedWorld → JournalValue → Gtids
known_to world journal = set.union world.opening_set (whole journal)

-- What a faithful journal has a record of is closed.
abbrev pub WholeIsClosed : Type 0
WholeIsClosed = (world : OrderedWorld) (journal : JournalValue) → IsFaithful world journal → IsClosed world (set.contains (known_to world journal))

-- So its rows are defined if the world is sound.
abbrev pub WholeApplies : Type 0
WholeApplies = (world : OrderedWorld) (journal : JournalValue) → IsSound world → IsFaithful world journal → IsOk (rows_of world (set.contains (known_to world journal)))

-- A faithful journal stays faithful with a new transaction of the world that leaves what it has a record of closed.
abbrev pub FaithfulGoesOn : Type 0
FaithfulGoesOn = (world : OrderedWorld) (journal : JournalValue) (entry : Entry) → IsFaithful world journal
    → content world entry.gtid ≡ Some entry.txn → set.contains (whole journal) entry.gtid ≡ false
    → IsClosed world (set.contains (set.insert (known_to world journal) entry.gtid))
    → IsFaithful world (record { previous = journal.previous; entries = journal.entries ++ entry ∷ [] })

-- A faithful journal whose first entries are purged is faithful.
abbrev pub PurgedIsFaithful : Type 0
PurgedIsFaithful = (world : OrderedWorld) (journal : JournalValue) (k : ℕ) → IsFaithful world journal → k ≤ length journal.entries
    → IsFaithful world (record { previous = set.union journal.previous (gtids_of (take k journal.entries)); entries = drop k journal.entries })
