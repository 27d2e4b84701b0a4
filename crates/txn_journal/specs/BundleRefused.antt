-- What is no bundle.
use Rattle.std.specs.Prelude.{ℕ, List, Option, None}
use Rattle.txn_journal.specs.declared.lines.Version.{Version}
use Rattle.txn_journal.specs.Formats.{RefusesBy}
use Rattle.txn_journal.specs.BundleReading.{bundles}
use Rattle.txn_journal.specs.declared.fault.JournalFault.{JournalFault}
use Rattle.txn_journal.specs.declared.lines.Due.{Due}
use Rattle.txn_journal.specs.declared.lines.Due.TheVariants.{Any}

-- what each fault means for the text, if a bundle of this version is due, or of any
abbrev pub RefusesBundleBy : Due → JournalFault → List ℕ → Type 0
RefusesBundleBy due fault bytes = RefusesBy (bundles due) fault bytes

abbrev pub RefusesBundle : JournalFault → List ℕ → Type 0
RefusesBundle fault bytes = RefusesBundleBy Any fault bytes
