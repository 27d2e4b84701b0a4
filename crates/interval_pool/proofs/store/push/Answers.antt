use Rattle.std.proofs.Common.{◌≡◌, ℕ, ◌+◌, ap, ◌∙◌, sym, subst, refl, None, Some, List, [], ◌∷◌, ◌++◌, length, take, drop, arith}
use Rattle.std.specs.Prelude.{if◌then◌else◌, IsOk}
use Rattle.interval_pool.specs.declared.cells.Cell.{Cell}
use Rattle.interval_pool.specs.declared.cells.Head.{Head}
use Rattle.interval_pool.specs.Cells.{head_at, with_head, with_next}
use Rattle.interval_pool.specs.Pools.{chain_of}
use Rattle.interval_pool.specs.Changes.{Pushed}
use Rattle.interval_pool.proofs.store.push.Goals as goal
use Rattle.interval_pool.proofs.Linking.{length_next}
use Rattle.interval_pool.proofs.Walking.{chain_few}
use Rattle.interval_pool.proofs.Valued.{seamed}
use Rattle.interval_pool.proofs.Appending.{pushed_last}

pub returns-clause-ok : goal.returns-clause-ok
returns-clause-ok c = λ h small not_free lt is_last.
    let s = c.args.numbers in
    let k : ℕ = c.args.list in
    let new : Cell = record { lo = s.lo; hi = s.hi; next = c.none.result; owner = k } in
    let items : List Cell = c.args.cells.now.items in
    let heads : List Head = c.args.heads.now in
    let n = length items in
    let at : length c.as_slice-at.result.now ≡ n = ap length c.as_slice-at.ensures.value in
    let few = chain_few items heads None (chain_of items heads) k h in
    let count = h.count k in
    let to : c.to.result ≡ Some n = c.to.ensures (omega (at, small, arith)) ∙ ap Some at in
    let led : c.link_last.new.cells ≡ with_next items c.args.last (Some n) = c.link_last.ensures.cells ∙ (λ i. with_next ((c.deref_mut.ensures.value ∙ c.reserve.ensures.items) i) c.args.last (to i)) in
    let heads_are : c.link_last.new.heads ≡ with_head heads k c.args.last (Some n) ((head_at heads k).len + 1) =
    c.link_last.ensures.heads (omega (count, few, small, arith)) ∙ ap (λ o. with_head heads k c.args.last o ((head_at heads k).len + 1)) to in
    let size : length c.link_last.new.cells ≡ c.reserve.new.self.len = (
    let a = ap length led in let b = length_next items c.args.last (Some n) in let d = ap length (c.deref_mut.ensures.value ∙ c.reserve.ensures.items) in let e = c.deref_mut.ensures.len in omega (a, b, d, e, arith)) in
    let whole = seamed c.link_last.new.cells c.reserve.new.self.items c.reserve.new.self.len size in
    let before : List Cell = take c.reserve.new.self.len (c.link_last.new.cells ++ drop (length c.link_last.new.cells) c.reserve.new.self.items) in
    let room = c.in_ok-reserve.ensures.ok in
    let ok : IsOk c.push.result = c.push.ensures.succeeds (omega (room, arith)) in
    let pushed : c.push.new.self.items ≡ with_next items c.args.last (Some n) ++ new ∷ [] =
    c.push.ensures.items ∙ (ap (λ b. if b then before ++ new ∷ [] else before) ok ∙ ap (λ cs. cs ++ new ∷ []) (whole ∙ led)) in
    let P : List Cell → Type 0 = λ cs. Pushed items heads k s cs c.link_last.new.heads in
    let Q : List Head → Type 0 = λ hs. Pushed items heads k s (with_next items c.args.last (Some n) ++ new ∷ []) hs in
    subst P (sym pushed) (subst Q (sym heads_are) (pushed_last items heads k c.args.last new refl c.none.ensures h small not_free lt is_last))
