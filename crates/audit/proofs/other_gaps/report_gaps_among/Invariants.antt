use Rattle.std.proofs.Common.{◌≡◌, List, ◌++◌, drop}
use Rattle.std.specs.FinSet as set
use Rattle.audit.specs.OtherGaps.{Gap, gaps_among, unreported}
use Rattle.audit.proofs.other_gaps.report_gaps_among.Given as goal

abbrev pub invariant-loop-entry : goal.invariant-loop-entry
invariant-loop-entry l =
    (rest : List Gap)
    → l.found.items ++ unreported l.reported (gaps_among l.needs l.previous l.standing (drop l.entry-index l.journal.entries) rest)
    ≡ l.fn.found.items ++ unreported l.fn.reported (gaps_among l.needs l.journal.previous set.empty l.journal.entries rest)
