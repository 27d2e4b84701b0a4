use Rattle.std.proofs.Common.{◌≡◌, ◌++◌, drop}
use Rattle.audit.specs.OtherGaps.{gap_of_verdict, gaps_in, unreported}
use Rattle.audit.proofs.other_gaps.gaps_beside.Given as goal

abbrev pub invariant-loop-journal : goal.invariant-loop-journal
invariant-loop-journal l =
    l.found.items ++ unreported l.reported (gaps_in l.needs (drop l.journal-index l.journals))
    ≡ unreported (gap_of_verdict l.verdict) (gaps_in l.needs l.journals)
