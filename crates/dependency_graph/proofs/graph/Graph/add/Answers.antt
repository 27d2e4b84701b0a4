use Rattle.std.proofs.Common.{rules, ◌≡◌, ◌≢◌, not, ◌&&◌, ◌∷◌, ◌++◌, [], ◌+◌, ◌<◌, refl, sym, ap, ◌∙◌, subst, length, false, arith}
use Rattle.dependency_graph.specs.Graphs.{unfinished}
use Rattle.dependency_graph.specs.Kept.{LinksAll, CountsAll}
use Rattle.dependency_graph.proofs.Kept.{length_points}
use Rattle.dependency_graph.proofs.Entries.{distinct_of}
use Rattle.dependency_graph.proofs.Adding.{kept_reserved, kept_pushed, points_pushed, read_last}
use Rattle.dependency_graph.specs.declared.graph.GraphNode.{GraphNode}
use Rattle.std.specs.Prelude.{nat_eq}
use Rattle.std.specs.List.{AllPairs}
use Rattle.dependency_graph.specs.Held.{IsHeld}
use Rattle.dependency_graph.specs.Ready.{IsListing, is_unblocked_at}
use Rattle.dependency_graph.proofs.Listing.{listed_pushed}
use Rattle.dependency_graph.proofs.graph.Graph.add.Goals as goal

pub invariant_of-self : goal.invariant_of-self
invariant_of-self c = record {
  kept = kept_reserved c.self.inside.dropped c.self.inside.nodes.items c.self.inside.chains c.reserve.new.self c.reserve.ensures.same c.self.invariant.kept;
  listed = c.self.invariant.listed;
}

pub make_room-requires : goal.make_room-requires
make_room-requires c =
    let size = length_points c.self.inside.dropped c.self.inside.nodes.items in
    let same = ap length c.self.view_is in
    omega (size, same, c.requires.room, arith)

pub invariant_of-self-in_err-make_room : goal.invariant_of-self-in_err-make_room
invariant_of-self-in_err-make_room c =
    let d = c.self.inside.dropped in
    let nodes = c.self.inside.nodes.items in
    record {
      kept = kept_reserved d nodes c.self.inside.chains c.reserve.new.self c.reserve.ensures.same c.self.invariant.kept;
      listed = c.make_room.ensures.same c.self.invariant.listed;
    }

pub link-waits-requires-clause-distinct : goal.link-waits-requires-clause-distinct
link-waits-requires-clause-distinct c =
    let nodes = c.self.inside.nodes.items in
    let node : GraphNode = record { finished = false; waits = 0; keys = c.args.keys } in
    let at : c.len-at.result ≡ length nodes = search rules in
    let keys : c.deref-2.result.now ≡ c.args.keys.items = c.deref-2.ensures.value ∙ ap (λ (n : GraphNode). n.keys.items) (read_last nodes c.push_back.new.self.items node c.index.result.now c.len-at.result at c.in_ok-push_back.ensures.items c.index.ensures) in
    subst (AllPairs (λ a b. a ≢ b)) (sym keys) c.requires.distinct

pub invariant_of-self-in_err-push_back : goal.invariant_of-self-in_err-push_back
invariant_of-self-in_err-push_back c =
    let d = c.self.inside.dropped in
    let nodes = c.self.inside.nodes.items in
    subst (λ ns. IsHeld d ns c.reserve.new.self c.make_room.new.ready) (sym c.in_err-push_back.ensures.items) (record {
      kept = kept_reserved d nodes c.self.inside.chains c.reserve.new.self c.reserve.ensures.same c.self.invariant.kept;
      listed = c.make_room.ensures.same c.self.invariant.listed;
    })

pub invariant_of-self-2 : goal.invariant_of-self-2
invariant_of-self-2 c =
    let d = c.self.inside.dropped in
    let nodes = c.self.inside.nodes.items in
    let node : GraphNode = record { finished = false; waits = 0; keys = c.args.keys } in
    let at : c.len-at.result ≡ length nodes = search rules in
    let pushed = c.in_ok-push_back.ensures.items in
    let keys : c.deref-2.result.now ≡ c.args.keys.items = c.deref-2.ensures.value ∙ ap (λ (n : GraphNode). n.keys.items) (read_last nodes c.push_back.new.self.items node c.index.result.now c.len-at.result at pushed c.index.ensures) in
    let size = length_points d nodes in
    let same = ap length c.self.view_is in
    let few : d + c.len-at.result < 4294967294 = omega (at, size, same, c.requires.room, arith) in
    let read : c.index_mut.result.now ≡ node = read_last nodes c.push_back.new.self.items node c.index_mut.result.now c.len-at.result at pushed c.index_mut.ensures.value in
    record {
      kept =
          kept_pushed d nodes c.push_back.new.self.items node c.index_mut.result.now c.len-at.result c.args.keys.items c.link-waits.result at pushed c.index_mut.ensures.value refl refl
          c.reserve.new.self c.link-waits.new.chains
          (kept_reserved d nodes c.self.inside.chains c.reserve.new.self c.reserve.ensures.same c.self.invariant.kept) few (distinct_of c.args.keys.items c.requires.distinct)
          (subst (λ ks. LinksAll c.reserve.new.self c.link-waits.new.chains ks (d + c.len-at.result)) keys c.link-waits.ensures.holds)
          (subst (λ ks. CountsAll c.reserve.new.self ks (d + c.len-at.result) c.link-waits.result) keys c.link-waits.ensures.waits);
      listed =
          listed_pushed d nodes c.push_back.new.self.items node (record c.index_mut.result.now { waits = c.link-waits.result }) c.len-at.result c.make_room.new.ready c.insert_if.new.self (nat_eq c.link-waits.result 0) at pushed
          (ap (λ (n : GraphNode). not n.finished && nat_eq c.link-waits.result 0) read)
          (subst (λ n. IsListing c.make_room.new.ready d (d + n + 1) (is_unblocked_at d nodes)) (sym at) (c.in_ok-make_room.ensures.room c.self.invariant.listed))
          c.insert_if.ensures;
    }

pub returns-clause-added : goal.returns-clause-added
returns-clause-added c =
    let d = c.self.inside.dropped in
    let nodes = c.self.inside.nodes.items in
    let node : GraphNode = record { finished = false; waits = 0; keys = c.args.keys } in
    let at : c.len-at.result ≡ length nodes = search rules in
    points_pushed d nodes c.push_back.new.self.items node c.index_mut.result.now c.len-at.result c.args.keys.items c.link-waits.result at c.in_ok-push_back.ensures.items c.index_mut.ensures.value refl refl
    ∙ ap (λ ps. ps ++ unfinished c.args.keys.items ∷ []) c.self.view_is
