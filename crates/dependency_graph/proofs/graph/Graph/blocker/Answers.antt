use Rattle.std.proofs.Common.{sym, ap, ◌∙◌, ◌≡◌, ◌-◌, ◌<◌, map, take, length, arith}
use Rattle.std.proofs.lemmas.List.{take_all}
use Rattle.dependency_graph.specs.Graphs.{Point, least, holds_back, blocker, point_at}
use Rattle.dependency_graph.proofs.Least.{none_at, earlier, earlier_takes, earlier_keeps, earlier_none}
use Rattle.dependency_graph.proofs.Kept.{gone_free, kept_now, length_points, may_go_free, may_go_kept, touch_more}
use Rattle.dependency_graph.specs.Kept.{point_of, points}
use Rattle.dependency_graph.specs.Chains.{first_of}
use Rattle.dependency_graph.proofs.Chained.{kept_is_sound}
use Rattle.dependency_graph.proofs.graph.Graph.blocker.Goals as goal
use Rattle.dependency_graph.proofs.graph.Graph.blocker.Goals.{in-Some+then-first-unwrap_or, in-Some+else-first-unwrap_or, in_default}

pub returns-then-node-self : goal.returns-then-node-self
returns-then-node-self c = sym (gone_free c.self.inside.dropped c.args.node (map point_of c.self.inside.nodes.items) c.if-node-self.true) ∙ ap (λ ps. blocker ps c.args.node) c.self.view_is

pub returns-then-is_unblocked : goal.returns-then-is_unblocked
returns-then-is_unblocked c =
    let d = c.self.inside.dropped in
    let nodes = c.self.inside.nodes.items in
    let node = c.args.node in
    let size = length_points d nodes in
    let same = ap length c.self.view_is in
    let below : node - d < length nodes = omega (size, same, c.requires, c.if-node-self.false, arith) in
    let sound = kept_is_sound d nodes c.self.inside.chains c.self.invariant.kept in
    let may = may_go_kept d nodes c.self.inside.chains sound node c.index-here.result.now c.if-node-self.false below c.index-here.ensures ∙ sym c.is_unblocked.ensures ∙ c.if-is_unblocked.true in
    sym (may_go_free (points d nodes) node may) ∙ ap (λ ps. blocker ps node) c.self.view_is

pub loop-key-init : goal.loop-key-init
loop-key-init c = sym (none_at 0 (take c.args.node c.args.self.now))

pub loop-key-preserved : goal.loop-key-preserved
loop-key-preserved c =
    let step : c.match-first.least ≡ earlier c.args.node c.loop-key.least c.first.result = elim c.match-first.branch [
      | in-Some+then-first-unwrap_or w ↦ earlier_takes c.args.node w.in-Some.first c.loop-key.least c.first.result c.match-first.least w.in-Some.is (rw (← w.unwrap_or.ensures) w.if-first-unwrap_or.true) w.least-is
      | in-Some+else-first-unwrap_or w ↦ earlier_keeps c.args.node w.in-Some.first c.loop-key.least c.first.result c.match-first.least w.in-Some.is (rw (← w.unwrap_or.ensures) w.if-first-unwrap_or.false) w.least-is
      | in_default w ↦ earlier_none c.args.node c.loop-key.least c.first.result c.match-first.least w.in_default.is w.least-is
    ] in
    step ∙ touch_more c.key-item.result c.self.inside.chains c.deref-key-items.result.now c.loop-key.key-index c.args.node (points c.self.inside.dropped c.self.inside.nodes.items) c.args.self.now c.loop-key.least c.first.result (kept_is_sound c.self.inside.dropped c.self.inside.nodes.items c.self.inside.chains c.self.invariant.kept).front c.self.view_is c.loop-key-test.true (c.first.ensures ∙ ap (first_of c.self.inside.chains) c.key-item.is) c.loop-key.invariant

pub returns : goal.returns
returns c =
    let d = c.self.inside.dropped in
    let nodes = c.self.inside.nodes.items in
    let node = c.args.node in
    let all = take_all c.loop-key.key-index c.deref-key-items.result.now c.loop-key-test.false in
    let size = length_points d nodes in
    let same = ap length c.self.view_is in
    let below : node - d < length nodes = omega (size, same, c.requires, c.if-node-self.false, arith) in
    let kept = kept_now d nodes node c.index-here.result.now c.if-node-self.false below c.index-here.ensures in
    c.loop-key.invariant
    ∙ ap (λ ks. least (holds_back ks) 0 (take node c.args.self.now)) (all ∙ c.deref-key-items.ensures.value)
    ∙ ap (λ (p : Point). least (holds_back p.keys) 0 (take node c.args.self.now)) (sym kept)
    ∙ ap (λ ps. least (holds_back (point_at ps node).keys) 0 (take node c.args.self.now)) c.self.view_is
