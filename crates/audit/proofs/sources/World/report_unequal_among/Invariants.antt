use Rattle.std.proofs.Common.{◌≡◌, List, ◌++◌, drop}
use Rattle.journal.specs.declared.Entry.{Entry}
use Rattle.audit.specs.OtherUnequal.{unequal_from}
use Rattle.audit.proofs.sources.World.report_unequal_among.Given as goal

abbrev pub invariant-loop-entry : goal.invariant-loop-entry
invariant-loop-entry l =
    (rest : List Entry)
    → l.found.items ++ unequal_from l.self l.reported (drop l.entry-index l.entries ++ rest) ≡ l.fn.found.items ++ unequal_from l.self l.fn.reported (l.entries ++ rest)
