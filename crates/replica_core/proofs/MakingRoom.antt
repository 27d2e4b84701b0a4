-- The purged set is a part of the executed set.
use Rattle.std.proofs.Common.{◌≤◌, ℕ, arith}
use Rattle.gtid_set.specs.Sets.{source_count, most_sources}
use Rattle.journal.specs.Journals.{JournalValue, previous_after_purge, whole}
use Rattle.journal.proofs.FaultLemmas.{fewer}

pub purged_fits : (n : ℕ) (j : JournalValue) → source_count (whole j) ≤ most_sources → source_count (previous_after_purge n j) ≤ most_sources
purged_fits n j fits = let part = fewer n j.previous j.entries in omega (arith, part, fits)
