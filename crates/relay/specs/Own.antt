-- A server's own journal, with its executed set beside it.
use Rattle.std.specs.Prelude.{◌≡◌, ℕ, ◌≤◌, ◌-◌, Bool, length, take, drop, [], ◌∷◌, ◌++◌, Result, Ok, Err}
use Rattle.gtid_set.specs.Sets.{Gtids, source_count, most_sources}
use Rattle.journal.specs.declared.Entry.{Entry}
use Rattle.journal.specs.Journals.{JournalValue, previous_after_purge, whole}
use Rattle.journal.specs.Faults.{IsPurgedFault}
use Rattle.relay.specs.declared.Known.{Known}
use Rattle.relay.specs.Known.{IsNear}
use Rattle.relay.specs.declared.PurgeFault.{PurgeFault}
use Rattle.relay.specs.declared.PurgeFault.TheVariants.{TooMany, Set}
use Rattle.relay.specs.declared.Behind.{Behind}
use Rattle.relay.specs.declared.Behind.TheVariants.{Equal, ByLast, By, Ahead}

-- the own journal: its previous set is the purged set. Beside it, whether its last entry can be taken back.
pub record OwnValue : Type 0 where
  pub journal : JournalValue
  pub undoable : Bool

-- a journal without its last entry
abbrev pub without_last : JournalValue → JournalValue
without_last journal = record journal { entries = take (length journal.entries - 1) journal.entries }

-- a journal with one entry more
abbrev pub with_last : Entry → JournalValue → JournalValue
with_last entry journal = record journal { entries = journal.entries ++ entry ∷ [] }

-- a journal with its first entries purged
abbrev pub purge_to : ℕ → JournalValue → JournalValue
purge_to count journal = record { previous = previous_after_purge count journal; entries = drop count journal.entries }

-- one entry behind, the spare set is that of the journal without its last entry
abbrev pub IsBefore : Behind → Gtids → JournalValue → Type 0
IsBefore Equal spare journal = Unit {0}
IsBefore (ByLast gtid) spare journal = spare ≡ whole (without_last journal)
IsBefore (By gtid) spare journal = Unit {0}
IsBefore (Ahead gtid) spare journal = Unit {0}

-- the invariant of the own journal
pub record IsOwn (journal : JournalValue) (known : Known) : Type 0 where
  pub whole_set : known.executed ≡ whole journal
  pub near : IsNear known
  pub before : IsBefore known.behind known.spare journal

abbrev pub IsCountFault : PurgeFault → Type 0
IsCountFault (TooMany n) = Unit {0}
IsCountFault (Set fault) = ⊥

-- there were not as many entries
abbrev pub IsTooMany : Result Gtids PurgeFault → Type 0
IsTooMany (Ok previous) = ⊥
IsTooMany (Err fault) = IsCountFault fault

-- there were as many entries, and the purged set was not made; being a part of the executed set, it has not too many sources
abbrev pub IsPurgeFault : PurgeFault → ℕ → JournalValue → Type 0
IsPurgeFault (TooMany n) count journal = Unit {0}
IsPurgeFault (Set fault) count journal = IsPurgedFault fault count journal × (source_count (previous_after_purge count journal) ≤ most_sources)
