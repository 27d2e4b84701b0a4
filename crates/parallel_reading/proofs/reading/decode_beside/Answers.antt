use Rattle.std.proofs.Common.{[], inr, sym, subst}
use Rattle.std.specs.Prelude.{Result}
use Rattle.txn_journal.specs.BundleStates.{BundleValue}
use Rattle.txn_journal.specs.Stream.{IsWholeOr}
use Rattle.txn_journal.specs.BundleReading.{bundles, bundle_start, feed_bundle_bytes, closing_bundle, IsFaultOfBundle}
use Rattle.txn_journal.specs.BundleReaders.{bundle_reading}
use Rattle.txn_journal.specs.declared.fault.JournalFault.{JournalFault}
use Rattle.txn_journal.proofs.FormatLaws.{closed_after, is_found, is_only, is_refused, whole_of}
use Rattle.txn_journal.proofs.BundlePlaces.{IsSoundBundle, bundle_laws}
use Rattle.txn_journal.specs.declared.lines.Due.TheVariants.{Any}
use Rattle.parallel_reading.proofs.reading.decode_beside.Goals as goal

pub returns : goal.returns
returns g c =
    let bytes = c.args.bytes.now in
    let read = subst (λ (r : Result BundleValue JournalFault). IsWholeOr (IsFaultOfBundle (bundle_start Any) bytes) r (closing_bundle (feed_bundle_bytes (bundle_start Any) bytes))) (sym c.finish.ensures) (closed_after (bundles Any) bytes (bundle_reading c.fed_beside-reader.result) (c.fed_beside-reader.ensures [] (inr c.start.ensures))) in
    record {
      found = is_found (bundles Any) (IsSoundBundle Any) (bundle_laws Any) c.finish.result bytes read;
      only = is_only (bundles Any) (IsSoundBundle Any) (bundle_laws Any) c.finish.result bytes read;
      refused = is_refused (bundles Any) (IsSoundBundle Any) (bundle_laws Any) c.finish.result bytes read;
      exact = whole_of _ _ _ read;
    }
