use Rattle.std.proofs.Common.{◌≡◌, take}
use Rattle.std.specs.FinSet as set
use Rattle.journal.specs.Journals.{gtids_of}
use Rattle.txn_journal.proofs.statements.gtids_of.Given as goal

abbrev pub invariant-loop-entry : goal.invariant-loop-entry
invariant-loop-entry l = set.from_list l.known.keys ≡ gtids_of (take l.entry-index l.entries)
