use Rattle.txn_journal.specs.BundleDrafts.{bundle_standing}
use Rattle.txn_journal.proofs.BundleKept.{come_text}
use Rattle.txn_journal.proofs.bundle_reader.LinesTakeChange.take_entry.Goals as goal

pub invariant_of-self : goal.invariant_of-self
invariant_of-self c = come_text (bundle_standing c.self.inside.draft) (bundle_standing c.take_entry.new.self) c.args.entry.text _ c.in-Ok.made c.self.invariant c.in-Ok.ensures
