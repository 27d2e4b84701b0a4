use Rattle.std.proofs.Common.{◌≡◌, ◌+◌, ◌-◌, map, sym, ap, ◌∙◌, arith}
use Rattle.dependency_graph.specs.Graphs.{drop_finished, mark_at, finish_at}
use Rattle.dependency_graph.specs.Kept.{points, point_of}
use Rattle.dependency_graph.proofs.Listing.{gone_marked}
use Rattle.dependency_graph.proofs.graph.Graph.finish.Goals as goal
use Rattle.dependency_graph.proofs.graph.Graph.finish.Goals.{then-node-self, else-node-self}

pub invariant_of-self : goal.invariant_of-self
invariant_of-self c = record { kept = c.mark.ensures.kept; listed = c.mark.ensures.listed c.self.invariant.listed }

pub returns : goal.returns
returns c =
    let d = c.self.inside.dropped in
    let nodes = c.self.inside.nodes.items in
    let node = c.args.node in
    let marked : c.if-node-self.self ≡ mark_at (points d nodes) node = elim c.if-node-self.branch [
      | then-node-self w ↦ let place : d + (node - d) ≡ node = omega (w.if-node-self.true, arith) in w.self-is ∙ w.mark.ensures.marked ∙ ap (mark_at (points d nodes)) place
      | else-node-self w ↦ w.self-is ∙ sym c.self.view_is ∙ sym (gone_marked d node (map point_of nodes) w.if-node-self.false)
    ] in
    c.drop_front.ensures ∙ ap drop_finished marked ∙ ap (λ ps. finish_at ps node) c.self.view_is
