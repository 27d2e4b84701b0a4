-- A change that a line of a bundle's open entry writes.
use Rattle.std.specs.Prelude.{Some, Result, Ok}
use Rattle.rows.specs.declared.change.Change.{Change}
use Rattle.txn_journal.specs.Lines.{◌>>=◌}
use Rattle.txn_journal.specs.Machine.{add}
use Rattle.txn_journal.specs.BundleStates.{BundleStanding}
use Rattle.txn_journal.specs.declared.fault.Cause.{Cause}

-- one change more in the entry that is open
unfoldable pub with_change : BundleStanding → Change → Result BundleStanding Cause
with_change s change = do
  draft ← add (Some s.bundle.start.schema) s.draft change
  Ok (record s { draft = draft })
