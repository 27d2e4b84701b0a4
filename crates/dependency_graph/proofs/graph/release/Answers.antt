use Rattle.std.proofs.Common.{◌≡◌, ◌-◌, sym, ap, subst, ◌∙◌, get_or-set_same}
use Rattle.std.specs.Prelude.{nat_eq}
use Rattle.dependency_graph.specs.Ready.{Turns}
use Rattle.dependency_graph.specs.declared.graph.GraphNode.{GraphNode}
use Rattle.dependency_graph.proofs.Settling.{releases_at}
use Rattle.dependency_graph.proofs.Popping.{unfinished_kept}
use Rattle.dependency_graph.proofs.Listing.{listed_lowered}
use Rattle.dependency_graph.proofs.graph.release.Goals as goal

pub returns-then-not-is_finished-clause-releases : goal.returns-then-not-is_finished-clause-releases
returns-then-not-is_finished-clause-releases c =
    releases_at c.args.dropped c.args.nodes.now.items c.index_mut.result.now c.in-Some.node c.args.first c.in-Some.is c.index_mut.ensures.value
    (sym c.is_finished.ensures ∙ c.if-not-is_finished.true)

pub returns-then-not-is_finished-clause-listed : goal.returns-then-not-is_finished-clause-listed
returns-then-not-is_finished-clause-listed c =
    let d = c.args.dropped in
    let nodes = c.args.nodes.now.items in
    let node = c.in-Some.node in
    let x = c.index_mut.result.now in
    let y : GraphNode = record x { waits = x.waits - 1 } in
    let open_one = sym c.is_finished.ensures ∙ c.if-not-is_finished.true in
    let now_is : c.index.result.now ≡ y = c.index.ensures ∙ get_or-set_same nodes (node - d) y _ (unfinished_kept d nodes node open_one).1 in
    listed_lowered d nodes node x c.args.ready.now c.insert_if.new.self open_one c.index_mut.ensures.value (c.requires node x c.in-Some.is open_one c.index_mut.ensures.value)
    (λ base end p q lo hi t h. c.insert_if.ensures base end p q lo hi (subst (Turns p q node) (sym (ap (λ (n : GraphNode). nat_eq n.waits 0) now_is)) t) h)
