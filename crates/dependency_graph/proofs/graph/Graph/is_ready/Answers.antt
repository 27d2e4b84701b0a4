use Rattle.std.proofs.Common.{sym, ap, ◌∙◌, ◌-◌, ◌<◌, map, length, arith}
use Rattle.std.specs.Prelude.{is_none}
use Rattle.dependency_graph.specs.Graphs.{is_ready}
use Rattle.dependency_graph.specs.Kept.{point_of}
use Rattle.dependency_graph.proofs.Kept.{gone_free, length_points, ready_kept}
use Rattle.dependency_graph.proofs.Chained.{kept_is_sound}
use Rattle.dependency_graph.proofs.graph.Graph.is_ready.Goals as goal

pub returns-then-node-self : goal.returns-then-node-self
returns-then-node-self c = sym (ap is_none (gone_free c.self.inside.dropped c.args.node (map point_of c.self.inside.nodes.items) c.if-node-self.true)) ∙ ap (λ ps. is_ready ps c.args.node) c.self.view_is

pub returns : goal.returns
returns c =
    let d = c.self.inside.dropped in
    let nodes = c.self.inside.nodes.items in
    let size = length_points d nodes in
    let same = ap length c.self.view_is in
    let below : c.args.node - d < length nodes = omega (size, same, c.requires, c.if-node-self.false, arith) in
    sym (ready_kept d nodes c.self.inside.chains (kept_is_sound c.self.inside.dropped c.self.inside.nodes.items c.self.inside.chains c.self.invariant.kept) c.args.node c.index-here.result.now c.if-node-self.false below c.index-here.ensures c.if-here.false)
    ∙ ap (λ ps. is_ready ps c.args.node) c.self.view_is
