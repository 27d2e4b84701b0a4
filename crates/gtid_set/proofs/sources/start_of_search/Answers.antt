use Rattle.std.proofs.Common.{[], ◌≡◌, subst, ◌∙◌, List, ℕ}
use Rattle.std.proofs.lemmas.List.{get_or_default}
use Rattle.gtid_set.specs.Order.{block_at, BeginsBelow}
use Rattle.gtid_set.proofs.BlockLemmas.{start_below}
use Rattle.gtid_set.proofs.sources.start_of_search.Goals as goal

pub returns-then-begins_before : goal.returns-then-begins_before
returns-then-begins_before c =
    let b = c.saturating_sub-guess.result in
    let is : c.index-order-guess.result ≡ block_at c.args.order.now b = c.index-order-guess.is ∙ get_or_default c.args.order.now b c.index-order-guess.result [] c.if-guess-order.true in
    start_below c.args.sources.now c.args.order.now c.args.id b c.requires c.if-guess-order.true (subst (λ (block : List ℕ). BeginsBelow c.args.sources.now block c.args.id) is (c.begins_before.ensures c.if-begins_before.true))
