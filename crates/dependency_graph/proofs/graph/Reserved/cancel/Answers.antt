use Rattle.std.proofs.Common.{rules, ◌≡◌, ◌+◌, ◌-◌, ◌∷◌, [], sym, ap, subst, ◌∙◌, length, take, deque_len, arith}
use Rattle.dependency_graph.specs.Held.{IsHeld}
use Rattle.dependency_graph.specs.Ready.{is_unblocked_at}
use Rattle.std.proofs.lemmas.List.{length_push}
use Rattle.dependency_graph.proofs.Listing.{listing_less, take_front}
use Rattle.dependency_graph.proofs.graph.Reserved.cancel.Goals as goal

pub invariant_of-result : goal.invariant_of-result
invariant_of-result c =
    let d = c.self.inside.dropped in
    let held = c.self.invariant.reserved in
    let longer = ap length held.is in
    let more = length_push held.old held.node in
    let size : deque_len c.self.inside.nodes ≡ length c.self.inside.nodes.items = search rules in
    let fewer : deque_len c.self.inside.nodes - 1 ≡ length held.old = omega (size, longer, more, arith) in
    let left : c.pop_back.new.self.items ≡ held.old = c.pop_back.ensures.rest ∙ ap (λ n. take n c.self.inside.nodes.items) fewer ∙ ap (take (length held.old)) held.is ∙ take_front held.old (held.node ∷ []) in
    subst (λ ns. IsHeld d ns c.self.inside.chains c.self.inside.ready) (sym left) (record {
      kept = held.kept;
      listed = λ some. listing_less c.self.inside.ready d (d + length held.old + 1) (d + length held.old) (is_unblocked_at d held.old) (omega arith) c.self.invariant.listed;
    })
