use Rattle.std.proofs.Common.{◌≡◌, ◌+◌, refl, sym, subst, ◌∙◌}
use Rattle.dependency_graph.specs.Ready.{Turns, is_unblocked}
use Rattle.dependency_graph.proofs.Listing.{listed_marked, goes_in_at}
use Rattle.dependency_graph.proofs.Marking.{kept_marked}
use Rattle.dependency_graph.proofs.Settling.{marked_is}
use Rattle.dependency_graph.proofs.graph.mark.Goals as goal

pub loop-i-init : goal.loop-i-init
loop-i-init c = record {
  kept = kept_marked c.args.dropped c.args.nodes.now.items c.args.chains.now c.requires.kept c.args.at c.index_mut.result.now c.index_mut.ensures.value c.requires.in_range;
  same = refl;
  listed = λ h. h;
}

pub returns-clause-marked : goal.returns-clause-marked
returns-clause-marked c = marked_is c.args.dropped c.args.nodes.now.items c.loop-i.nodes.items c.args.at c.index_mut.result.now c.index_mut.ensures.value c.requires.in_range c.loop-i.invariant.same

pub returns-clause-listed : goal.returns-clause-listed
returns-clause-listed c = λ h.
    let d = c.args.dropped in
    let nodes = c.args.nodes.now.items in
    let at = c.args.at in
    let x = c.index_mut.result.now in
    let was : c.is_unblocked.result ≡ is_unblocked x = c.is_unblocked.ensures ∙ sym (goes_in_at nodes at c.index.result.now c.index.ensures c.requires.in_range) ∙ goes_in_at nodes at x c.index_mut.ensures.value c.requires.in_range in
    c.loop-i.invariant.listed
    (listed_marked d nodes at x c.args.ready.now c.remove_if.new.self c.index_mut.ensures.value c.requires.in_range
    (λ base end p q lo hi t. c.remove_if.ensures base end p q lo hi (subst (Turns p q (d + at)) (sym was) t)) h)
