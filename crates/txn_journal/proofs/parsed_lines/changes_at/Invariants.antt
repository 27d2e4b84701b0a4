use Rattle.std.proofs.Common.{◌≡◌, ℕ, List, ◌++◌, length}
use Rattle.rows.specs.declared.limits.Limits.TheVariants.{Narrow}
use Rattle.txn_journal.specs.EntryLines.{ended, AreChangeLines}
use Rattle.txn_journal.specs.Kept.{AreWritable}
use Rattle.txn_journal.proofs.parsed_lines.changes_at.Given as goal

abbrev pub invariant-lines : goal.invariant-lines
invariant-lines l = record {
  within : List (List ℕ);
  so_far : l.fn.text ≡ ended within ++ l.left;
  lines : AreChangeLines Narrow within l.changes.items;
  writable : AreWritable Narrow l.changes.items;
}

abbrev pub decreases-lines : goal.decreases-lines
decreases-lines l = length l.left
