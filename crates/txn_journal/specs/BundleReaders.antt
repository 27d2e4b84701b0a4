-- How far a reader of bundles has come.
use Rattle.std.specs.Prelude.{ℕ, List, nat_eq, codes, if◌then◌else◌}
use Rattle.std.specs.List.{starts_with}
use Rattle.rows.specs.declared.limits.Limits.{Limits}
use Rattle.rows.specs.declared.limits.Limits.TheVariants.{Wide}
use Rattle.txn_journal.specs.Versions.{limits_of}
use Rattle.txn_journal.specs.declared.bundle_reader.BundleReader.{BundleReader}
use Rattle.txn_journal.specs.BundleReading.{BundleProgress}
use Rattle.txn_journal.specs.Feeds.{progress}

abbrev pub bundle_reading : BundleReader → BundleProgress
bundle_reading r = progress r.feed

-- the limits by which the next piece is most likely read: those of version 3 where it begins with its header, and else those of the lines so
-- far
abbrev pub limits_ahead : BundleReader → List ℕ → Limits
limits_ahead r piece = if starts_with nat_eq piece (codes "bundle 3\n") then Wide else limits_of r.feed.made.made.version
