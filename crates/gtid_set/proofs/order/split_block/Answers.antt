use Rattle.std.proofs.Common.{[], ◌≡◌, ◌<◌, length, sym, ap, subst, ◌∙◌, ◌+◌, ◌++◌, arith}
use Rattle.std.specs.Prelude.{if◌then◌else◌, insert, IsOk, slice_set}
use Rattle.std.specs.List.{concat}
use Rattle.std.proofs.lemmas.List.{get_or_default}
use Rattle.gtid_set.specs.Order.{block_at}
use Rattle.gtid_set.proofs.OrderLemmas.{split_within}
use Rattle.gtid_set.proofs.order.split_block.Goals as goal

pub returns : goal.returns
returns c =
    let blocks = c.args.order.now.items in
    let at = c.args.at in
    let lower = c.split.new.self in
    let upper = c.in-Ok-split.upper in
    let same = c.reserve.ensures.items in
    let room = c.in-Ok.ensures.ok in
    let here : block_at blocks at ≡ lower ++ upper =
    ap (λ xs. block_at xs at) (sym same) ∙ get_or_default c.reserve.new.self.items at [] c.index_mut.result.now (subst (λ xs. at < length xs) (sym same) c.requires) ∙ sym c.index_mut.ensures.value ∙ c.in-Ok-split.ensures.ok in
    let ok : IsOk c.insert.result = c.insert.ensures.succeeds (omega (arith, room)) in
    ap concat (c.insert.ensures.items ∙ ap (λ b. if b then insert (slice_set c.reserve.new.self.items at lower) (at + 1) upper else slice_set c.reserve.new.self.items at lower) ok)
    ∙ ap (λ xs. concat (insert (slice_set xs at lower) (at + 1) upper)) same ∙ split_within blocks at lower upper c.requires here
