-- What Sound means.
use Rattle.std.specs.Prelude.{◌≡◌, true, List}
use Rattle.std.specs.List.{AllByRecursion}
use Rattle.std.specs.FinSet as set
use Rattle.gtid_set.specs.Sets.{Gtids}
use Rattle.rows.specs.declared.schema.Table.{Table}
use Rattle.rows.specs.Apply.{Rows}
use Rattle.journal.specs.Journals.{JournalValue, IsJournal}
use Rattle.history.specs.Sources.{AreKeysSound, IsSound}
use Rattle.history.specs.SourceJournals.{IsFaithful, IsFaithfulBySource}
use Rattle.world.specs.declared.verdict.Verdict.TheVariants.{Sound}
use Rattle.world.specs.Audit.{world_of, verdict_of_keys, verdict}

-- what the type of journals keeps holds of each
abbrev pub AreJournals : List JournalValue → Type 0
AreJournals journals = AllByRecursion (λ (j : JournalValue). IsJournal j.previous j.entries) journals

-- If the audit of a bundle reports Sound, its world is sound and each journal is faithful, in the words of sources and numbers.
abbrev pub SoundMeansSound : Type 0
SoundMeansSound = (schema : List Table) (opened : Gtids) (rows : Rows) (journals : List JournalValue) → AreJournals journals
    → verdict (world_of schema opened rows journals) journals ≡ Sound
    → IsSound (world_of schema opened rows journals) × AllByRecursion (IsFaithfulBySource (world_of schema opened rows journals)) journals

-- The other way, if no journal's previous set goes beyond the opening set.
abbrev pub FaithfulIsSound : Type 0
FaithfulIsSound = (schema : List Table) (opened : Gtids) (rows : Rows) (journals : List JournalValue)
    → IsSound (world_of schema opened rows journals) → AllByRecursion (IsFaithful (world_of schema opened rows journals)) journals
    → AllByRecursion (λ (j : JournalValue). set.is_subset j.previous opened ≡ true) journals
    → verdict (world_of schema opened rows journals) journals ≡ Sound

-- The audit of keys alone: all but the application.
abbrev pub KeysSoundMeans : Type 0
KeysSoundMeans = (schema : List Table) (opened : Gtids) (rows : Rows) (journals : List JournalValue) → AreJournals journals
    → verdict_of_keys (world_of schema opened rows journals) journals ≡ Sound
    → AreKeysSound (world_of schema opened rows journals) × AllByRecursion (IsFaithful (world_of schema opened rows journals)) journals
