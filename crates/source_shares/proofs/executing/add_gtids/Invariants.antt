use Rattle.std.proofs.Common.{◌≡◌, take}
use Rattle.std.specs.FinSet as set
use Rattle.journal.specs.Journals.{gtids_of}
use Rattle.source_shares.proofs.executing.add_gtids.Given as goal

abbrev pub invariant-loop-entry : goal.invariant-loop-entry
invariant-loop-entry l = l.known ≡ set.union l.initial.known (gtids_of (take l.entry-index l.entries))
