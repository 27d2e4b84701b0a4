use Rattle.std.specs.Prelude.{None}
use Rattle.txn_journal.specs.BundleReading.{bundles}
use Rattle.txn_journal.proofs.FormatLaws.{is_found, is_only, is_refused, whole_of}
use Rattle.txn_journal.proofs.BundlePlaces.{IsSoundBundle, bundle_laws}
use Rattle.txn_journal.proofs.bundle_reader.decode_bundle.Goals as goal
use Rattle.txn_journal.specs.declared.lines.Due.TheVariants.{Any}

pub returns : goal.returns
returns c = record {
  found = is_found (bundles Any) (IsSoundBundle Any) (bundle_laws Any) c.read_bundle.result c.args.bytes.now c.read_bundle.ensures;
  only = is_only (bundles Any) (IsSoundBundle Any) (bundle_laws Any) c.read_bundle.result c.args.bytes.now c.read_bundle.ensures;
  refused = is_refused (bundles Any) (IsSoundBundle Any) (bundle_laws Any) c.read_bundle.result c.args.bytes.now c.read_bundle.ensures;
  exact = whole_of _ _ _ c.read_bundle.ensures;
}
