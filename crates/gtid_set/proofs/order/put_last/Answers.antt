use Rattle.std.proofs.Common.{[], ◌≡◌, ◌-◌, length, ap, ◌∙◌, arith}
use Rattle.std.specs.Prelude.{insert, slice_set}
use Rattle.std.specs.List.{concat}
use Rattle.std.proofs.lemmas.List.{get_or_default}
use Rattle.std.proofs.lemmas.Result.{on_ok_weaker}
use Rattle.gtid_set.specs.Order.{block_at}
use Rattle.gtid_set.proofs.OrderLemmas.{put_end}
use Rattle.gtid_set.proofs.order.put_last.Goals as goal

pub returns-clause-ok : goal.returns-clause-ok
returns-clause-ok c =
    let blocks = c.args.order.now.items in
    let n = length c.as_slice-count.result.now - 1 in
    let long = ap length c.as_slice-count.ensures.value in
    let some = c.if-count-eq0.false in
    let here : c.index_mut.result.now ≡ block_at blocks n = c.index_mut.ensures.value ∙ get_or_default blocks n c.index_mut.result.now [] (omega (arith, long, some)) in
    let there : length c.places-end.result.now ≡ length (block_at blocks n) = ap length (c.places-end.ensures ∙ c.index.ensures ∙ get_or_default blocks n c.index.result.now [] (omega (arith, long, some))) in
    on_ok_weaker c.put.result (λ e. ap (λ block. concat (slice_set blocks n block)) (e ∙ (λ i. insert (here i) (there i) c.args.place)) ∙ put_end blocks n c.args.place (omega (arith, long, some))) c.put.ensures.ok
