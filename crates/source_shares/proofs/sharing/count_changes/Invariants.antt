use Rattle.std.proofs.Common.{length, ◌-◌}
use Rattle.source_shares.proofs.sharing.count_changes.Given as goal

abbrev pub decreases-sources : goal.decreases-sources
decreases-sources l = length l.entries - l.place
