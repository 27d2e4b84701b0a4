use Rattle.std.proofs.Common.{ap, subst, ◌∙◌}
use Rattle.replica_core.specs.State.{Replica}
use Rattle.replica_core.specs.Kept.{AreKept}
use Rattle.replica_core.specs.Seated.{AreSeated}
use Rattle.replica_core.proofs.CoreLemmas.{at_core}
use Rattle.replica_core.proofs.machine.Core.kept_channel.Goals as goal

pub returns-clause-found : goal.returns-clause-found
returns-clause-found c =
    let view = c.self.view_is in
    let list = ap (λ (r : Replica). r.state.channels) view in
    let schema = c.self.invariant.same ∙ ap (λ (r : Replica). r.site.schema) view in
    let kept = subst (λ (r : Replica). AreKept r.site.schema r.state.executed r.state.channels) view c.self.invariant.kept in
    at_core c.args.self.now c.self.inside.channels c.args.channel c.get.result list schema kept c.get.ensures.found

pub returns-clause-seated : goal.returns-clause-seated
returns-clause-seated c = subst (λ (r : Replica). AreSeated r.state.channels r.state.seats) c.self.view_is c.self.invariant.seated
