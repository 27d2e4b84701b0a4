use Rattle.std.proofs.Common.{subst, sym, Err}
use Rattle.std.specs.Prelude.{Result}
use Rattle.txn_journal.specs.BundleStates.{BundleValue}
use Rattle.txn_journal.specs.declared.fault.JournalFault.{JournalFault}
use Rattle.txn_journal.specs.Stream.{IsAfter, IsWholeOr}
use Rattle.txn_journal.specs.BundleReading.{bundles, BundleProgress, bundle_start, IsFaultOfBundle, feed_bundle_bytes}
use Rattle.txn_journal.specs.BundleReaders.{bundle_reading}
use Rattle.txn_journal.proofs.FormatLaws.{stopped_with}
use Rattle.txn_journal.proofs.BundlePlaces.{closing_same}
use Rattle.txn_journal.proofs.bundle_reader.read_bundle.Goals as goal

pub returns-in-Err : goal.returns-in-Err
returns-in-Err c =
    let bytes = c.args.bytes.now in
    let due = c.args.due in
    let after = subst (λ (p : BundleProgress). IsAfter (IsFaultOfBundle p bytes) (bundle_reading c.feed.new.self) (feed_bundle_bytes p bytes)) c.start_as-reader.ensures c.feed.ensures.next in
    let stopped = stopped_with (bundles due) bytes c.in-Err.fault (bundle_reading c.feed.new.self) c.in-Err.ensures.answer after in
    subst (λ (w : Result BundleValue JournalFault). IsWholeOr (IsFaultOfBundle (bundle_start due) bytes) (Err c.in-Err.fault) w) (sym (closing_same due (feed_bundle_bytes (bundle_start due) bytes))) stopped
