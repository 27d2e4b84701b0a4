use Rattle.std.proofs.Common.{sym, ap, ◌∙◌, ◌-◌, ◌+◌, ◌<◌, map, length, arith}
use Rattle.dependency_graph.specs.Graphs.{may_go}
use Rattle.dependency_graph.specs.Kept.{point_of}
use Rattle.dependency_graph.proofs.Kept.{gone_stays, length_points, may_go_kept}
use Rattle.dependency_graph.specs.Ready.{is_unblocked_at}
use Rattle.dependency_graph.proofs.Listing.{fails_on, goes_as_told}
use Rattle.dependency_graph.proofs.Chained.{kept_is_sound}
use Rattle.dependency_graph.proofs.graph.Graph.next_ready.Goals as goal
use Rattle.dependency_graph.proofs.graph.Graph.next_ready.Goals.{then-from-self, else-from-self}

pub loop-node-init : goal.loop-node-init
loop-node-init c = elim c.if-from-self.branch [
  | then-from-self w ↦ record {
    kept = omega (w.node-is, arith);
    from = omega (w.node-is, w.if-from-self.true, arith);
    none = λ m le lt end. ap (λ ps. may_go ps m) (sym c.self.view_is) ∙ gone_stays c.self.inside.dropped m (map point_of c.self.inside.nodes.items) (omega (w.node-is, lt, arith));
  }
  | else-from-self w ↦ record {
    kept = omega (w.node-is, w.if-from-self.false, arith);
    from = omega (w.node-is, arith);
    none = λ m le lt end. absurd (omega (w.node-is, le, lt, arith));
  }
]

pub loop-node-preserved : goal.loop-node-preserved
loop-node-preserved c =
    let d = c.self.inside.dropped in
    let nodes = c.self.inside.nodes.items in
    let node = c.loop-node.node in
    let here = c.index.result.now in
    let size = length_points d nodes in
    let same = ap length c.self.view_is in
    let kept = c.loop-node.invariant.kept in
    let before = c.loop-node.invariant.from in
    let sound = kept_is_sound d nodes c.self.inside.chains c.self.invariant.kept in
    let below : node - d < length nodes = omega (size, same, c.loop-node-test.true, c.len-end.ensures, kept, arith) in
    let is = ap (λ ps. may_go ps node) (sym c.self.view_is) ∙ may_go_kept d nodes c.self.inside.chains sound node here kept below c.index.ensures in
    record {
      kept = omega (kept, arith);
      from = omega (before, arith);
      none = fails_on (may_go c.args.self.now) c.args.from node c.skip-node.result c.len-end.result c.loop-node.invariant.none (is ∙ sym c.is_unblocked.ensures ∙ c.if-is_unblocked.false)
          (λ m lo hi end. ap (λ ps. may_go ps m) (sym c.self.view_is) ∙ goes_as_told d nodes c.self.inside.chains m sound (omega (lo, kept, arith)) (omega (lo, kept, end, c.len-end.ensures, size, same, arith))
          ∙ c.skip-node.ensures.bare d (d + length nodes) (is_unblocked_at d nodes) (c.self.invariant.listed (omega (below, arith))) m lo hi);
    }

pub returns-then-is_unblocked : goal.returns-then-is_unblocked
returns-then-is_unblocked c =
    let d = c.self.inside.dropped in
    let nodes = c.self.inside.nodes.items in
    let node = c.loop-node.node in
    let here = c.index.result.now in
    let size = length_points d nodes in
    let same = ap length c.self.view_is in
    let kept = c.loop-node.invariant.kept in
    let below : node - d < length nodes = omega (size, same, c.loop-node-test.true, c.len-end.ensures, kept, arith) in
    let is = ap (λ ps. may_go ps node) (sym c.self.view_is) ∙ may_go_kept d nodes c.self.inside.chains (kept_is_sound d nodes c.self.inside.chains c.self.invariant.kept) node here kept below c.index.ensures in
    (c.loop-node.invariant.from, omega (c.loop-node-test.true, c.len-end.ensures, arith), is ∙ sym c.is_unblocked.ensures ∙ c.if-is_unblocked.true, λ m le lt. c.loop-node.invariant.none m le lt (omega (lt, c.loop-node-test.true, arith)))

pub returns : goal.returns
returns c = λ m from lt. c.loop-node.invariant.none m from (omega (lt, c.loop-node-test.false, c.len-end.ensures, arith)) (omega (lt, c.len-end.ensures, arith))
