use Rattle.std.proofs.Common.{rules, ◌≡◌, ◌≢◌, not, ◌&&◌, ◌∷◌, ◌++◌, [], ◌+◌, ◌-◌, ◌<◌, refl, sym, ap, ◌∙◌, subst, length, arith}
use Rattle.std.proofs.lemmas.List.{length_push}
use Rattle.dependency_graph.specs.Graphs.{Awaiting, unfinished}
use Rattle.dependency_graph.specs.Kept.{LinksAll, CountsAll}
use Rattle.dependency_graph.specs.declared.graph.GraphNode.{GraphNode}
use Rattle.dependency_graph.proofs.Entries.{distinct_of}
use Rattle.dependency_graph.proofs.Adding.{kept_pushed, points_pushed, read_last, awaiting_is}
use Rattle.std.specs.Prelude.{nat_eq}
use Rattle.std.specs.List.{AllPairs}
use Rattle.dependency_graph.specs.Ready.{IsListing, is_unblocked_at}
use Rattle.dependency_graph.proofs.Listing.{listed_pushed}
use Rattle.dependency_graph.proofs.graph.Reserved.add.Goals as goal

pub invariant_of-result : goal.invariant_of-result
invariant_of-result c =
    let d = c.self.inside.dropped in
    let now = c.self.inside.nodes.items in
    let held = c.self.invariant.reserved in
    let all : c.len-at.result ≡ length now = search rules in
    let longer = ap length held.is in
    let more = length_push held.old held.node in
    let at : c.len-at.result - 1 ≡ length held.old = omega (all, longer, more, arith) in
    let keys : c.deref.result.now ≡ held.node.keys.items = c.deref.ensures.value ∙ ap (λ (n : GraphNode). n.keys.items) (read_last held.old now held.node c.index.result.now (c.len-at.result - 1) at held.is c.index.ensures) in
    let few : d + (c.len-at.result - 1) < 4294967294 = let less = held.few in omega (at, less, arith) in
    let read : c.index_mut.result.now ≡ held.node = read_last held.old now held.node c.index_mut.result.now (c.len-at.result - 1) at held.is c.index_mut.ensures.value in
    let listed = c.self.invariant.listed in
    record {
      kept =
          kept_pushed d held.old now held.node c.index_mut.result.now (c.len-at.result - 1) held.node.keys.items c.link-waits.result at held.is c.index_mut.ensures.value held.unfinished refl
          c.self.inside.chains c.link-waits.new.chains held.kept few (distinct_of held.node.keys.items held.distinct)
          (subst (λ ks. LinksAll c.self.inside.chains c.link-waits.new.chains ks (d + (c.len-at.result - 1))) keys c.link-waits.ensures.holds)
          (subst (λ ks. CountsAll c.self.inside.chains ks (d + (c.len-at.result - 1)) c.link-waits.result) keys c.link-waits.ensures.waits);
      listed =
          listed_pushed d held.old now held.node (record c.index_mut.result.now { waits = c.link-waits.result }) (c.len-at.result - 1) c.self.inside.ready c.insert_if.new.self (nat_eq c.link-waits.result 0) at held.is
          (ap (λ (n : GraphNode). not n.finished && nat_eq c.link-waits.result 0) read ∙ ap (λ b. not b && nat_eq c.link-waits.result 0) held.unfinished)
          (subst (λ n. IsListing c.self.inside.ready d (d + n + 1) (is_unblocked_at d held.old)) (sym at) listed)
          c.insert_if.ensures;
    }

pub link-waits-requires-clause-distinct : goal.link-waits-requires-clause-distinct
link-waits-requires-clause-distinct c =
    let now = c.self.inside.nodes.items in
    let held = c.self.invariant.reserved in
    let all : c.len-at.result ≡ length now = search rules in
    let longer = ap length held.is in
    let more = length_push held.old held.node in
    let at : c.len-at.result - 1 ≡ length held.old = omega (all, longer, more, arith) in
    let keys : c.deref.result.now ≡ held.node.keys.items = c.deref.ensures.value ∙ ap (λ (n : GraphNode). n.keys.items) (read_last held.old now held.node c.index.result.now (c.len-at.result - 1) at held.is c.index.ensures) in
    subst (AllPairs (λ a b. a ≢ b)) (sym keys) held.distinct

pub returns : goal.returns
returns c =
    let d = c.self.inside.dropped in
    let now = c.self.inside.nodes.items in
    let held = c.self.invariant.reserved in
    let all : c.len-at.result ≡ length now = search rules in
    let longer = ap length held.is in
    let more = length_push held.old held.node in
    let at : c.len-at.result - 1 ≡ length held.old = omega (all, longer, more, arith) in
    points_pushed d held.old now held.node c.index_mut.result.now (c.len-at.result - 1) held.node.keys.items c.link-waits.result at held.is c.index_mut.ensures.value held.unfinished refl
    ∙ ap (λ (a : Awaiting). a.nodes ++ unfinished a.keys ∷ []) (sym (awaiting_is d now held.old held.node held.is) ∙ c.self.view_is)
