use Rattle.std.specs.Prelude.{None}
use Rattle.txn_journal.specs.BundleReading.{bundles}
use Rattle.txn_journal.proofs.FormatLaws.{one_value}
use Rattle.txn_journal.proofs.BundlePlaces.{IsSoundBundle, bundle_laws}
use Rattle.txn_journal.proofs.OneBundle.{differ_in_order}
use Rattle.txn_journal.proofs.laws.one_bundle.Goals as goal
use Rattle.txn_journal.specs.declared.lines.Due.TheVariants.{Any}

pub returns : goal.returns
returns c = record { bundle = one_value (bundles Any) (IsSoundBundle Any) (bundle_laws Any); text = differ_in_order }
