use Rattle.std.proofs.Common.{◌≡◌, ◌++◌, drop}
use Rattle.audit.specs.Others.{each_from, other_purged_at}
use Rattle.audit.proofs.sources.World.other_purged.Given as goal

abbrev pub invariant-loop-i : goal.invariant-loop-i
invariant-loop-i l =
    l.list.items ++ each_from (other_purged_at l.self l.verdict) l.i (drop l.i l.journals)
    ≡ each_from (other_purged_at l.self l.verdict) 0 l.journals
