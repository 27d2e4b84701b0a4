use Rattle.std.proofs.Common.{◌≤◌, subst, ◌∙◌}
use Rattle.gtid_set.specs.Sets.{Gtids, source_count, most_sources}
use Rattle.replica_core.proofs.MakingRoom.{purged_fits}
use Rattle.replica_core.proofs.machine.Core.purged_has_room.Goals as goal

pub returns : goal.returns
returns c =
    purged_fits c.args.count c.args.self.now.state.journal
    (subst (λ (s : Gtids). source_count s ≤ most_sources) (c.executed.ensures ∙ c.executed_is_recorded.ensures) c.keeps_limits.ensures.sources)
