use Rattle.std.proofs.Common.{◌≡◌, ◌++◌, drop}
use Rattle.std.specs.FinSet as set
use Rattle.world.specs.Audit.{all_entries}
use Rattle.audit.specs.OtherUnequal.{unequal_from}
use Rattle.audit.proofs.sources.World.unequal_beside.Given as goal

abbrev pub invariant-loop-journal : goal.invariant-loop-journal
invariant-loop-journal l =
    l.found.items ++ unequal_from l.self l.reported (all_entries (drop l.journal-index l.journals))
    ≡ unequal_from l.self (set.insert set.empty l.fn.gtid) (all_entries l.journals)
