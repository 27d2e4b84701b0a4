use Rattle.std.proofs.Common.{◌<◌, ◌∙◌, ap, length, arith}
use Rattle.dependency_graph.specs.Graphs.{point_at}
use Rattle.dependency_graph.specs.Kept.{keys_at}
use Rattle.dependency_graph.proofs.Settling.{settled}
use Rattle.dependency_graph.proofs.graph.settle.Goals as goal

pub returns-clause-kept : goal.returns-clause-kept
returns-clause-kept c =
    let nodes = c.pop_finished.new.nodes.items in
    let same = ap (λ qs. length (point_at qs c.args.at).keys) (c.pop_finished.ensures.same ∙ c.settling.invariant.same) in
    let in_range : c.args.i < length (keys_at nodes c.args.at) = omega (same, c.requires.in_range, arith) in
    settled c.args.dropped nodes c.pop_finished.new.chains (keys_at nodes c.args.at) c.args.i in_range c.pop_finished.ensures.kept c.settling-test.ensures.front
