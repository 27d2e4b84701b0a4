use Rattle.std.proofs.Common.{◌≡◌, ◌++◌, drop, map}
use Rattle.std.specs.FinMap as finmap
use Rattle.audit.specs.Contents.{as_pair}
use Rattle.audit.specs.Others.{pairs_from, key_of_verdict}
use Rattle.audit.proofs.pairs.pairs_among.Given as goal

abbrev pub invariant-loop-entry : goal.invariant-loop-entry
invariant-loop-entry l =
    l.found.items ++ pairs_from l.schema l.seen l.named (map as_pair (drop l.entry-index l.entries))
    ≡ pairs_from l.schema finmap.empty (key_of_verdict l.verdict) (map as_pair l.entries)
