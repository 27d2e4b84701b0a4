use Rattle.std.proofs.Common.{[], rules, ◌≡◌, length, true, inl, ap, subst, ◌∙◌, List, ℕ}
use Rattle.std.specs.Prelude.{nat_lt}
use Rattle.std.proofs.lemmas.List.{get_or_default}
use Rattle.std.proofs.lemmas.List.Sorted.{IsPartitionPoint-from_clause}
use Rattle.gtid_set.specs.Kept.{comes_before, sources_at, are_places, are_ascending, IsSourcePlace}
use Rattle.gtid_set.specs.Order.{block_at}
use Rattle.gtid_set.proofs.KeptReads.{parted_places, placed_source}
use Rattle.gtid_set.proofs.BlockLemmas.{all_block, rising_block, seated, seat_within}
use Rattle.gtid_set.proofs.sources.seat_of.Goals as goal
use Rattle.gtid_set.proofs.sources.seat_of.Goals.{After-partition_point-offset}

-- the place within its block
within : (c : After-partition_point-offset) → IsSourcePlace (sources_at c.args.sources.now (block_at c.args.order.now c.block_of-block.result)) c.args.id c.partition_point-offset.result
within c =
    let sources = c.args.sources.now in
    let order = c.args.order.now in
    let b = c.block_of-block.result in
    let block = c.places.result.now in
    let lt = c.if-block-order.false in
    let is : block ≡ block_at order b = c.places.ensures ∙ c.index-order-block.is ∙ get_or_default order b c.index-order-block.result [] lt in
    let places : are_places sources block ≡ true = ap (are_places sources) is ∙ all_block (λ i. nat_lt i (length sources)) order b lt c.requires.places in
    let rising : are_ascending (sources_at sources block) ≡ true = ap (λ ps. are_ascending (sources_at sources ps)) is ∙ rising_block sources order b lt c.requires.rising in
    subst (λ (ps : List ℕ). IsSourcePlace (sources_at sources ps) c.args.id c.partition_point-offset.result) is
    (placed_source sources block c.args.id c.partition_point-offset.result places c.partition_point-offset.ensures.bound
    (IsPartitionPoint-from_clause (comes_before sources c.args.id) block c.partition_point-offset.result c.partition_point-offset.ensures.partitioned
    (parted_places sources block c.args.id places rising) (λ a r q k. search rules)))

pub returns-clause-place : goal.returns-clause-place
returns-clause-place c =
    seated c.args.sources.now c.args.order.now c.args.id c.block_of-block.result c.partition_point-offset.result c.requires.rising c.if-block-order.false c.block_of-block.ensures (within c)

pub returns-clause-seat : goal.returns-clause-seat
returns-clause-seat c =
    inl (seat_within c.args.sources.now (block_at c.args.order.now c.block_of-block.result) c.args.id c.partition_point-offset.result (c.block_of-block.ensures.ends c.if-block-order.false) (within c))
