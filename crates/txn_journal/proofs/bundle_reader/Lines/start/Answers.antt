use Rattle.std.proofs.Common.{sym, subst}
use Rattle.txn_journal.specs.BundleLines.{HasCome}
use Rattle.txn_journal.proofs.BundleKept.{come_start}
use Rattle.txn_journal.proofs.bundle_reader.Lines.start.Goals as goal

pub invariant_of-result : goal.invariant_of-result
invariant_of-result c = subst HasCome (sym c.start.ensures) (come_start c.args.due)
