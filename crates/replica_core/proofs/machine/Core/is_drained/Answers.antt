use Rattle.std.proofs.Common.{ap, ◌∙◌}
use Rattle.replica_core.specs.State.{Replica}
use Rattle.replica_core.specs.Machine.{drained}
use Rattle.replica_core.proofs.KeptLemmas.{settled_is}
use Rattle.replica_core.proofs.machine.Core.is_drained.Goals as goal

pub returns : goal.returns
returns c =
    c.are_settled.ensures
    ∙ settled_is c.self.inside.rows.schema _ c.self.inside.channels.list c.self.invariant.kept
    ∙ ap (λ (r : Replica). drained r.state) c.self.view_is
