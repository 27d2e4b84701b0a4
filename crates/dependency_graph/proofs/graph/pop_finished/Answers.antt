use Rattle.std.proofs.Common.{sym, ◌∙◌, ap, subst, drop}
use Rattle.dependency_graph.specs.Graphs.{point_at}
use Rattle.dependency_graph.specs.Kept.{keys_at, points, IsKept}
use Rattle.dependency_graph.proofs.Settling.{popped_can, popped_fewer, popped_goes, key_inside, front_open, when_false, when_true}
use Rattle.dependency_graph.proofs.graph.pop_finished.Goals as goal

pub release-requires : goal.release-requires
release-requires c =
    let nodes = c.args.nodes.now.items in
    let inside = key_inside nodes c.args.at c.args.i c.index.result.now c.index-key.result.now c.requires.in_range c.index.ensures c.index-key.ensures in
    popped_can c.args.dropped nodes c.args.chains.now c.pop-next.new.self (drop c.args.i (keys_at nodes c.args.at)) c.requires.kept c.index-key.result.now c.in-Some.first
    (sym c.first.ensures ∙ c.in-Some.is) (sym c.is_finished.ensures ∙ c.if-not-is_finished.false) inside c.pop-next.ensures.pops c.pop-next.result c.pop-next.ensures.next

pub returns-clause-kept : goal.returns-clause-kept
returns-clause-kept c =
    let nodes = c.args.nodes.now.items in
    let inside = key_inside nodes c.args.at c.args.i c.index.result.now c.index-key.result.now c.requires.in_range c.index.ensures c.index-key.ensures in
    let goes = popped_goes c.args.dropped nodes c.args.chains.now c.pop-next.new.self (drop c.args.i (keys_at nodes c.args.at)) c.requires.kept c.index-key.result.now c.in-Some.first
    (sym c.first.ensures ∙ c.in-Some.is) (sym c.is_finished.ensures ∙ c.if-not-is_finished.false) inside c.pop-next.ensures.pops c.pop-next.result c.pop-next.ensures.next c.release.new.nodes.items c.release.ensures.releases in
    subst (λ keys. IsKept c.args.dropped c.release.new.nodes.items c.pop-next.new.self (drop c.args.i keys)) (sym (ap (λ qs. (point_at qs c.args.at).keys) goes.1)) goes.0

pub returns-clause-same : goal.returns-clause-same
returns-clause-same c =
    let nodes = c.args.nodes.now.items in
    let inside = key_inside nodes c.args.at c.args.i c.index.result.now c.index-key.result.now c.requires.in_range c.index.ensures c.index-key.ensures in
    (popped_goes c.args.dropped nodes c.args.chains.now c.pop-next.new.self (drop c.args.i (keys_at nodes c.args.at)) c.requires.kept c.index-key.result.now c.in-Some.first
    (sym c.first.ensures ∙ c.in-Some.is) (sym c.is_finished.ensures ∙ c.if-not-is_finished.false) inside c.pop-next.ensures.pops c.pop-next.result c.pop-next.ensures.next c.release.new.nodes.items c.release.ensures.releases).1

pub returns-clause-fewer : goal.returns-clause-fewer
returns-clause-fewer c =
    let nodes = c.args.nodes.now.items in
    let inside = key_inside nodes c.args.at c.args.i c.index.result.now c.index-key.result.now c.requires.in_range c.index.ensures c.index-key.ensures in
    when_true c.is_done.result
    (popped_fewer c.args.dropped nodes c.args.chains.now c.pop-next.new.self (drop c.args.i (keys_at nodes c.args.at)) c.requires.kept c.index-key.result.now c.in-Some.first
    (sym c.first.ensures ∙ c.in-Some.is) (sym c.is_finished.ensures ∙ c.if-not-is_finished.false) inside c.pop-next.ensures.pops)

pub returns-clause-front : goal.returns-clause-front
returns-clause-front c =
    let nodes = c.args.nodes.now.items in
    let now = c.release.new.nodes.items in
    let inside = key_inside nodes c.args.at c.args.i c.index.result.now c.index-key.result.now c.requires.in_range c.index.ensures c.index-key.ensures in
    let goes = popped_goes c.args.dropped nodes c.args.chains.now c.pop-next.new.self (drop c.args.i (keys_at nodes c.args.at)) c.requires.kept c.index-key.result.now c.in-Some.first
    (sym c.first.ensures ∙ c.in-Some.is) (sym c.is_finished.ensures ∙ c.if-not-is_finished.false) inside c.pop-next.ensures.pops c.pop-next.result c.pop-next.ensures.next now c.release.ensures.releases in
    when_false c.is_done.result
    (λ open_one. front_open (points c.args.dropped now) c.pop-next.new.self nodes now c.args.at c.args.i c.index.result.now c.index-key.result.now c.requires.in_range c.index.ensures c.index-key.ensures goes.1
    (λ n first. open_one n (c.pop-next.ensures.next ∙ first)))
    c.is_done.ensures.stands
