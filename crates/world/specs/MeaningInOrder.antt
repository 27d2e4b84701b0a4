-- What Sound means of journals in one order.
use Rattle.std.specs.Prelude.{◌≡◌, List}
use Rattle.std.specs.List.{AllByRecursion}
use Rattle.gtid_set.specs.Sets.{Gtids}
use Rattle.rows.specs.declared.schema.Table.{Table}
use Rattle.rows.specs.Apply.{Rows}
use Rattle.journal.specs.Journals.{JournalValue}
use Rattle.world.specs.declared.verdict.Verdict.TheVariants.{Sound}
use Rattle.world.specs.Audit as sources
use Rattle.world.specs.Meaning.{AreJournals}
use Rattle.history.specs.World.{OrderedWorld, AreGtidsSound, IsSound}
use Rattle.history.specs.Faithful.{IsFaithful}
use Rattle.history.specs.Histories.{world_of_histories}
use Rattle.world.specs.Bundles.{histories_of}
use Rattle.world.specs.AuditInOrder.{verdict_of_keys_in_order, verdict_in_order}

-- the world that the journals' histories are joined to
abbrev pub joined_world : List Table → Gtids → Rows → List JournalValue → OrderedWorld
joined_world schema opened rows journals = world_of_histories schema opened rows (histories_of opened journals)

-- If the audit in one order reports Sound, the joined world is sound and each journal is faithful to it.
abbrev pub SoundInOrderMeans : Type 0
SoundInOrderMeans = (schema : List Table) (opened : Gtids) (rows : Rows) (journals : List JournalValue) → AreJournals journals
    → verdict_in_order (sources.world_of schema opened rows journals) journals ≡ Sound
    → IsSound (joined_world schema opened rows journals) × AllByRecursion (IsFaithful (joined_world schema opened rows journals)) journals

-- The audit of keys alone: all but the application.
abbrev pub KeysInOrderMean : Type 0
KeysInOrderMean = (schema : List Table) (opened : Gtids) (rows : Rows) (journals : List JournalValue) → AreJournals journals
    → verdict_of_keys_in_order (sources.world_of schema opened rows journals) journals ≡ Sound
    → AreGtidsSound (joined_world schema opened rows journals) × AllByRecursion (IsFaithful (joined_world schema opened rows journals)) journals
