use Rattle.std.proofs.Common.{◌++◌, List, ℕ, subst}
use Rattle.txn_journal.specs.BundleReading.{bundles, bundle_start}
use Rattle.txn_journal.specs.BundleReaders.{bundle_reading}
use Rattle.txn_journal.specs.declared.lines.Due.TheVariants.{Any}
use Rattle.parallel_reading.specs.Coming.{HasCome}
use Rattle.parallel_reading.proofs.Come.{come_more}
use Rattle.parallel_reading.proofs.reading.take_block.Goals as goal

pub returns-in-Ok : goal.returns-in-Ok
returns-in-Ok c bytes come = subst (λ (t : List ℕ). HasCome c.take_all.new.reader (bytes ++ t)) (rw c.in-Ok.is at c.requires) (c.take_all.ensures bytes come)

pub returns-in-Err : goal.returns-in-Err
returns-in-Err c bytes come = come_more (bundles Any).IsFull (bundles Any).judge (bundle_start Any) bytes c.args.block.now (bundle_reading c.args.reader.now) (bundle_reading c.feed.new.self) come c.feed.ensures.next
