-- Runs that are served the journals of a bundle, and the audit's verdict.
use Rattle.std.specs.Prelude.{◌≡◌, ◌↔◌, List}
use Rattle.gtid_set.specs.Sets.{Gtids}
use Rattle.rows.specs.declared.schema.Table.{Table}
use Rattle.rows.specs.Apply.{Rows}
use Rattle.journal.specs.Journals.{JournalValue}
use Rattle.replica_core.specs.declared.event.Event.{Event}
use Rattle.replica_core.specs.State.{State, Site}
use Rattle.replica_core.specs.Machine.{after}
use Rattle.replica_core.specs.Draining.{AreStoppedOrDone}
use Rattle.history.specs.Sources.{in_order}
use Rattle.convergence.specs.Faithful.{start_with}
use Rattle.convergence.specs.Served.{IsDrained}
use Rattle.convergence.specs.Deciding.{ServesAll, HoldsAll}
use Rattle.world.specs.declared.verdict.Verdict.TheVariants.{Sound}
use Rattle.world.specs.Audit.{world_of, verdict_of_keys, verdict}
use Rattle.world.specs.Meaning.{AreJournals}

-- If the audit of keys reports Sound, a run from the opening that was served each journal whole on some channel, and whose every channel is
-- stopped or done, has executed all that it received if and only if the audit reports Sound. The world may fail to apply.
abbrev pub WorkersDecide : Type 0
WorkersDecide = (site : Site) (opened : Gtids) (rows : Rows) (journals : List JournalValue) (events : List Event) → AreJournals journals
    → verdict_of_keys (world_of site.schema opened rows journals) journals ≡ Sound
    → ServesAll site (start_with opened rows) journals events
    → AreStoppedOrDone (after site (start_with opened rows) events)
    → IsDrained (after site (start_with opened rows) events) ↔ (verdict (world_of site.schema opened rows journals) journals ≡ Sound)

-- the executed set and the rows of a state are those of all journals together
abbrev pub HoldsAllOver : List Table → Gtids → Rows → List JournalValue → State → Type 0
HoldsAllOver schema opened rows journals s = HoldsAll (in_order (world_of schema opened rows journals)) journals s

-- If it has executed all that it received, it holds what all journals together denote.
abbrev pub ServedHoldsAll : Type 0
ServedHoldsAll = (site : Site) (opened : Gtids) (rows : Rows) (journals : List JournalValue) (events : List Event) → AreJournals journals
    → verdict_of_keys (world_of site.schema opened rows journals) journals ≡ Sound
    → ServesAll site (start_with opened rows) journals events
    → IsDrained (after site (start_with opened rows) events)
    → HoldsAllOver site.schema opened rows journals (after site (start_with opened rows) events)
