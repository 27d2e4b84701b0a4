use Rattle.std.proofs.Common.{[], ◌≡◌, sym, ap, ◌∙◌}
use Rattle.std.proofs.lemmas.Option.{slice_get-get_or}
use Rattle.std.proofs.lemmas.List.{get_or_default}
use Rattle.std.specs.List.{slice_get}
use Rattle.gtid_set.specs.Order.{block_at}
use Rattle.gtid_set.proofs.OrderLemmas.{got_within}
use Rattle.gtid_set.proofs.order.place_at.Goals as goal

pub returns-clause-some : goal.returns-clause-some
returns-clause-some c =
    let block = c.places-places.result.now in
    let is : block_at c.args.order.now c.args.seat.block ≡ block = get_or_default c.args.order.now c.args.seat.block [] c.index-order-seat.result c.if-seat-order.false ∙ sym c.index-order-seat.is ∙ sym c.places-places.ensures in
    got_within c.args.order.now c.args.seat.block c.args.seat.offset _ (ap (λ xs. slice_get xs c.args.seat.offset) is ∙ slice_get-get_or block c.args.seat.offset 0 c.if-seat-places.false)
