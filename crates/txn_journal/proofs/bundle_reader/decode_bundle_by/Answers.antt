use Rattle.std.proofs.Common.{subst}
use Rattle.std.specs.Prelude.{Some, Result}
use Rattle.txn_journal.specs.BundleStates.{BundleValue}
use Rattle.txn_journal.specs.declared.fault.JournalFault.{JournalFault}
use Rattle.txn_journal.specs.Stream.{IsWholeOr}
use Rattle.txn_journal.specs.BundleReading.{bundles, bundle_start, IsFaultOfBundle, feed_bundle_bytes}
use Rattle.txn_journal.proofs.FormatLaws.{is_found, is_only, is_refused, whole_of}
use Rattle.txn_journal.proofs.BundlePlaces.{IsSoundBundle, bundle_laws, closing_same}
use Rattle.txn_journal.proofs.bundle_reader.decode_bundle_by.Goals as goal

pub returns : goal.returns
returns c =
    let bytes = c.args.bytes.now in
    let due = c.args.due in
    let read = subst (λ (w : Result BundleValue JournalFault). IsWholeOr (IsFaultOfBundle (bundle_start due) bytes) c.read_bundle.result w) (closing_same due (feed_bundle_bytes (bundle_start due) bytes)) c.read_bundle.ensures in
    record {
      found = is_found (bundles due) (IsSoundBundle due) (bundle_laws due) c.read_bundle.result bytes read;
      only = is_only (bundles due) (IsSoundBundle due) (bundle_laws due) c.read_bundle.result bytes read;
      refused = is_refused (bundles due) (IsSoundBundle due) (bundle_laws due) c.read_bundle.result bytes read;
      exact = whole_of _ _ _ c.read_bundle.ensures;
    }
