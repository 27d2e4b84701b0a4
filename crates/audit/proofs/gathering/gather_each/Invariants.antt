use Rattle.std.proofs.Common.{◌++◌, List, take}
use Rattle.audit.specs.Marks.{owner_of}
use Rattle.journal.specs.declared.Entry.{Entry}
use Rattle.audit.specs.Gathering.{IsGathered}
use Rattle.audit.proofs.gathering.gather_each.Given as goal

abbrev pub invariant-loop-entry : goal.invariant-loop-entry
invariant-loop-entry l =
    (es : List Entry) → IsGathered l.opened l.schema es l.fn.state.runs.items (owner_of l.fn.state.owners) → IsGathered l.opened l.schema (es ++ take l.entry-index l.entries) l.state.runs.items (owner_of l.state.owners)
