use Rattle.txn_journal.specs.BundleDrafts.{bundle_standing}
use Rattle.txn_journal.proofs.BundleKept.{come_plain}
use Rattle.txn_journal.proofs.bundle_reader.LinesTakeLine.take_plain.Goals as goal

pub invariant_of-self : goal.invariant_of-self
invariant_of-self c = come_plain (bundle_standing c.self.inside.draft) (bundle_standing c.take_plain.new.self) c.args.line.now c.in-Ok.made c.self.invariant c.in-Ok.ensures.line
