-- Runs that are served the journals of a bundle, and the verdict of its audit in one order.
use Rattle.std.specs.Prelude.{◌≡◌, ◌↔◌, List}
use Rattle.gtid_set.specs.Sets.{Gtids}
use Rattle.rows.specs.Apply.{Rows}
use Rattle.journal.specs.Journals.{JournalValue}
use Rattle.replica_core.specs.declared.event.Event.{Event}
use Rattle.replica_core.specs.State.{Site}
use Rattle.replica_core.specs.Machine.{after}
use Rattle.replica_core.specs.Draining.{AreStoppedOrDone}
use Rattle.convergence.specs.Faithful.{start_with}
use Rattle.convergence.specs.Served.{IsDrained}
use Rattle.convergence.specs.Deciding.{ServesAll, HoldsAll}
use Rattle.world.specs.declared.verdict.Verdict.TheVariants.{Sound}
use Rattle.world.specs.Audit.{world_of}
use Rattle.world.specs.Meaning.{AreJournals}
use Rattle.world.specs.AuditInOrder.{verdict_of_keys_in_order, verdict_in_order}
use Rattle.world.specs.MeaningInOrder.{joined_world}

-- If the audit of keys in one order reports Sound, a run from the opening that was served each journal whole on some channel, and whose
-- every channel is stopped or done, has executed all that it received if and only if the audit in one order reports Sound.
abbrev pub WorkersDecideInOrder : Type 0
WorkersDecideInOrder = (site : Site) (opened : Gtids) (rows : Rows) (journals : List JournalValue) (events : List Event) → AreJournals journals
    → verdict_of_keys_in_order (world_of site.schema opened rows journals) journals ≡ Sound
    → ServesAll site (start_with opened rows) journals events
    → AreStoppedOrDone (after site (start_with opened rows) events)
    → IsDrained (after site (start_with opened rows) events) ↔ (verdict_in_order (world_of site.schema opened rows journals) journals ≡ Sound)

-- If it has executed all that it received, it holds what all journals together denote in the joined world.
abbrev pub ServedHoldsAllInOrder : Type 0
ServedHoldsAllInOrder = (site : Site) (opened : Gtids) (rows : Rows) (journals : List JournalValue) (events : List Event) → AreJournals journals
    → verdict_of_keys_in_order (world_of site.schema opened rows journals) journals ≡ Sound
    → ServesAll site (start_with opened rows) journals events
    → IsDrained (after site (start_with opened rows) events)
    → HoldsAll (joined_world site.schema opened rows journals) journals (after site (start_with opened rows) events)
