use Rattle.std.proofs.Common.{◌≡◌, ◌++◌, drop, map}
use Rattle.audit.specs.Contents.{as_pair}
use Rattle.audit.specs.OtherRefusals.{refused_from}
use Rattle.audit.proofs.other_refusals.refusals_among.Given as goal

abbrev pub invariant-loop-entry : goal.invariant-loop-entry
invariant-loop-entry l =
    (l.found.items ++ refused_from l.rows.schema l.passed (map as_pair (drop l.entry-index l.entries)) l.rows.rows
    ≡ refused_from l.fn.rows.schema l.fn.after (map as_pair l.entries) l.fn.rows.rows)
    × (l.rows.schema ≡ l.fn.rows.schema)
