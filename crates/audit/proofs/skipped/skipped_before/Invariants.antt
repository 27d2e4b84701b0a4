use Rattle.std.proofs.Common.{◌≡◌, ◌≤◌, drop, map, None}
use Rattle.std.specs.FinSet as set
use Rattle.gtid_set.specs.Full.{interval_count}
use Rattle.audit.specs.Contents.{as_pair}
use Rattle.audit.specs.Others.{skips_from}
use Rattle.audit.proofs.skipped.skipped_before.Given as goal

abbrev pub invariant-loop-entry : goal.invariant-loop-entry
invariant-loop-entry l =
    (skips_from l.skipped l.last (map as_pair (drop l.entry-index l.entries)) ≡ skips_from set.empty None (map as_pair l.entries)) × (interval_count l.skipped ≤ l.entry-index)
