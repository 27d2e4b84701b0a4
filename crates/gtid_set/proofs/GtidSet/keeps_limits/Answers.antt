use Rattle.std.proofs.Common.{◌≤◌, length, ap, subst, arith}
use Rattle.gtid_set.specs.Sets.{Gtids, source_count, most_sources}
use Rattle.gtid_set.specs.Full.{interval_count, most_intervals}
use Rattle.gtid_set.proofs.RunLemmas.{runs_merged}
use Rattle.gtid_set.proofs.GtidSet.keeps_limits.Goals as goal

pub returns-clause-sources : goal.returns-clause-sources
returns-clause-sources c = subst (λ (s : Gtids). source_count s ≤ most_sources) c.self.view_is c.is_kept.ensures.fits

pub returns-clause-intervals : goal.returns-clause-intervals
returns-clause-intervals c =
    let long = ap length (runs_merged c.self.inside.spans c.is_kept.ensures.merged) in
    let small = c.is_kept.ensures.small in
    subst (λ (s : Gtids). interval_count s ≤ most_intervals) c.self.view_is (omega (arith, long, small))
