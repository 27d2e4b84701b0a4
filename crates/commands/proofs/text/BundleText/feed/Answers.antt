use Rattle.std.proofs.Common.{None}
use Rattle.txn_journal.specs.BundleReading.{bundles, bundle_start}
use Rattle.txn_journal.specs.BundleReaders.{bundle_reading}
use Rattle.txn_journal.specs.declared.lines.Due.TheVariants.{Any}
use Rattle.commands.proofs.Coming.{come_more}
use Rattle.commands.proofs.text.BundleText.feed.Goals as goal

pub returns : goal.returns
returns c = λ bytes come.
    come_more (bundles Any).IsFull (bundles Any).judge (bundle_start Any) bytes c.args.piece.now (bundle_reading c.args.reader.now) (bundle_reading c.feed.new.self) come c.feed.ensures.next
