use Rattle.std.proofs.Common.{[], ◌≡◌, ◌<◌, ap, sym, ◌∙◌, List, ℕ}
use Rattle.std.specs.Prelude.{nat_lt, length, slice_index_or}
use Rattle.std.proofs.lemmas.List.{get_or_default}
use Rattle.gtid_set.specs.Kept.{sources_at, are_places, are_ascending}
use Rattle.gtid_set.specs.Order.{are_below, block_at}
use Rattle.gtid_set.proofs.BlockLemmas.{all_block, rising_block, below_next}
use Rattle.gtid_set.proofs.sources.block_of.Goals as goal

-- a block that was read
here : (blocks : List (List ℕ)) (at : ℕ) (block : List ℕ) → at < length blocks → block ≡ slice_index_or blocks at block → block ≡ block_at blocks at
here blocks at block lt is = is ∙ get_or_default blocks at block [] lt

pub ends_before-requires-clause-places : goal.ends_before-requires-clause-places
ends_before-requires-clause-places c =
    ap (are_places c.args.sources.now) (here c.args.order.now c.loop-at.at c.index-order-at.result c.loop-at-test.true c.index-order-at.is)
    ∙ all_block (λ i. nat_lt i (length c.args.sources.now)) c.args.order.now c.loop-at.at c.loop-at-test.true c.requires.places

pub ends_before-requires-clause-rising : goal.ends_before-requires-clause-rising
ends_before-requires-clause-rising c =
    ap (λ is. are_ascending (sources_at c.args.sources.now is)) (here c.args.order.now c.loop-at.at c.index-order-at.result c.loop-at-test.true c.index-order-at.is)
    ∙ rising_block c.args.sources.now c.args.order.now c.loop-at.at c.loop-at-test.true c.requires.rising

pub loop-at-preserved : goal.loop-at-preserved
loop-at-preserved c =
    below_next c.args.sources.now c.args.order.now c.args.id c.loop-at.at c.loop-at-test.true c.loop-at.invariant
    (ap (are_below c.args.sources.now c.args.id) (sym (here c.args.order.now c.loop-at.at c.index-order-at.result c.loop-at-test.true c.index-order-at.is)) ∙ c.if-not-ends_before.ensures)
