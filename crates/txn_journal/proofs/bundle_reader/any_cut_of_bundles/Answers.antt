use Rattle.std.proofs.Common.{None}
use Rattle.txn_journal.specs.BundleReading.{bundles}
use Rattle.txn_journal.proofs.Pieces.{eats_append}
use Rattle.txn_journal.proofs.bundle_reader.any_cut_of_bundles.Goals as goal
use Rattle.txn_journal.specs.declared.lines.Due.TheVariants.{Any}

pub returns : goal.returns
returns c = λ p front back. eats_append (bundles Any).judge p front back
