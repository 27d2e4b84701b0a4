use Rattle.std.proofs.Common.{[], take}
use Rattle.audit.specs.Marks.{owner_of}
use Rattle.world.specs.Audit.{all_entries}
use Rattle.audit.specs.Gathering.{IsGathered}
use Rattle.audit.proofs.gathering.gather_all.Given as goal

abbrev pub invariant-loop-journal : goal.invariant-loop-journal
invariant-loop-journal l =
    IsGathered l.opened l.schema [] l.fn.state.runs.items (owner_of l.fn.state.owners) → IsGathered l.opened l.schema (all_entries (take l.journal-index l.journals)) l.state.runs.items (owner_of l.state.owners)
