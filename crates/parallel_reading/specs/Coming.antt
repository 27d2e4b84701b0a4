-- A bundle that comes in pieces.
use Rattle.std.specs.Prelude.{ℕ, List}
use Rattle.txn_journal.specs.Stream.{IsAfter}
use Rattle.txn_journal.specs.BundleReading.{bundle_start, feed_bundle_bytes, IsFaultOfBundle}
use Rattle.txn_journal.specs.BundleReaders.{bundle_reading}
use Rattle.txn_journal.specs.declared.bundle_reader.BundleReader.{BundleReader}
use Rattle.txn_journal.specs.declared.lines.Due.TheVariants.{Any}

-- a reader of bundles is after these bytes, or has stopped at a fault of a set that may be
abbrev pub HasCome : BundleReader → List ℕ → Type 0
HasCome reader bytes = IsAfter (IsFaultOfBundle (bundle_start Any) bytes) (bundle_reading reader) (feed_bundle_bytes (bundle_start Any) bytes)
