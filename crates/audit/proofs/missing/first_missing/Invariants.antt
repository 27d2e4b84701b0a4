use Rattle.std.proofs.Common.{◌≡◌, drop, map, None}
use Rattle.audit.specs.Contents.{as_pair}
use Rattle.audit.specs.Missing.{missing_from}
use Rattle.audit.proofs.missing.first_missing.Given as goal

abbrev pub invariant-loop-entry : goal.invariant-loop-entry
invariant-loop-entry l = missing_from l.opened l.last (map as_pair (drop l.entry-index l.entries)) ≡ missing_from l.opened None (map as_pair l.entries)
