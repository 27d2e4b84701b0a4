-- What bytes parse as.
use Rattle.std.specs.Prelude.{ℕ, List, Result, Ok, Err}
use Rattle.txn_journal.specs.BundleStates.{BundleValue}
use Rattle.txn_journal.specs.BundleReading.{bundle_start, feed_bundle_bytes, closing_bundle}
use Rattle.txn_journal.specs.BundleText.{WritesBundleBy, WritesBundle}
use Rattle.txn_journal.specs.BundleRefused.{RefusesBundleBy, RefusesBundle}
use Rattle.txn_journal.specs.declared.fault.JournalFault.{JournalFault}
use Rattle.txn_journal.specs.declared.lines.Due.{Due}
use Rattle.txn_journal.specs.declared.lines.Due.TheVariants.{Any}

-- the bundle that the bytes parse as, or the first fault
abbrev pub bundle_in : List ℕ → Result BundleValue JournalFault
bundle_in bytes = closing_bundle (feed_bundle_bytes (bundle_start Any) bytes)

-- by the grammar of bundles the bytes are the text of this bundle, or have this first fault
abbrev pub ParsesAsBundle : List ℕ → Result BundleValue JournalFault → Type 0
ParsesAsBundle bytes (Ok b) = WritesBundle bytes b
ParsesAsBundle bytes (Err fault) = RefusesBundle fault bytes

-- the bundle that the bytes parse as by a version that is due, or the first fault
abbrev pub bundle_by : Due → List ℕ → Result BundleValue JournalFault
bundle_by due bytes = closing_bundle (feed_bundle_bytes (bundle_start due) bytes)

-- the same by the grammar of these versions
abbrev pub ParsesBy : Due → List ℕ → Result BundleValue JournalFault → Type 0
ParsesBy due bytes (Ok b) = WritesBundleBy due bytes b
ParsesBy due bytes (Err fault) = RefusesBundleBy due fault bytes
