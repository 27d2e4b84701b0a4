use Rattle.std.proofs.Common.{◌≡◌, ◌+◌, ◌++◌, List, [], ◌∷◌, ℕ, inl, inr, map, take, length, length-append, ap, sym, ◌∙◌, arith}
use Rattle.std.specs.Prelude.{slice_get}
use Rattle.std.proofs.lemmas.List.{take_more, map_push}
use Rattle.lemmas.proofs.Lists.{get_push_cases}
use Rattle.network.specs.Nodes.{Node, opened_node}
use Rattle.network.specs.Reading.{Places}
use Rattle.network.proofs.ReadingLemmas.{new_read}
use Rattle.network.proofs.network.Network.open.Goals as goal

pub invariant_of-result : goal.invariant_of-result
invariant_of-result c = new_read c.loop-own.nodes.items c.loop-own.readers.items c.loop-own.invariant.count c.loop-own.invariant.new

pub loop-own-preserved : goal.loop-own-preserved
loop-own-preserved c =
    let i = c.loop-own.own-index in
    let ids = c.args.ids.now in
    let opened : ℕ → Node = opened_node c.args.rows.now.schema c.args.rows.now.rows in
    let node : c.in_ok-node.node ≡ opened c.own-item.result = c.in_ok-node.ensures.ok ∙ ap (λ r. opened_node r.schema r.rows c.own-item.result) c.in_ok-copy.ensures in
    let front = take_more ids i c.own-item.result (omega arith) ∙ ap (λ (x : ℕ). take i ids ++ x ∷ []) (sym c.own-item.is) in
    record {
      nodes = c.in_ok-push.ensures.items ∙ (λ k. c.loop-own.invariant.nodes k ++ node k ∷ []) ∙ sym (ap (map opened) front ∙ map_push opened (take i ids) c.own-item.result);
      count = (ap length c.in_ok-push-2.ensures.items ∙ length-append c.loop-own.readers.items (c.new.result ∷ []))
          ∙ (ap (λ (n : ℕ). n + 1) c.loop-own.invariant.count ∙ sym (ap length c.in_ok-push.ensures.items ∙ length-append c.loop-own.nodes.items (c.in_ok-node.node ∷ [])));
      new = λ j x e. elim (get_push_cases c.loop-own.readers.items c.new.result j x (ap (λ (xs : List Places). slice_get xs j) (sym c.in_ok-push-2.ensures.items) ∙ e)) [
        | inl old ↦ c.loop-own.invariant.new j x old
        | inr last ↦ sym last.1 ∙ c.new.ensures
      ];
    }
