use Rattle.std.proofs.Common.{◌≡◌, ◌∙◌, ℕ, ◌+◌, ◌<◌, None, Some, List, ◌++◌, length, ap, sym, subst, arith}
use Rattle.std.proofs.lemmas.Bool.Decides.{nat_tests}
use Rattle.interval_pool.specs.declared.cells.Cell.{Cell}
use Rattle.interval_pool.specs.declared.cells.Head.{Head}
use Rattle.interval_pool.specs.declared.interval.Interval.{Interval}
use Rattle.interval_pool.specs.Cells.{head_at, with_head, with_next}
use Rattle.interval_pool.specs.Pools.{chain_of}
use Rattle.interval_pool.specs.Changes.{Prolonged, run}
use Rattle.interval_pool.proofs.store.push_run.Goals as goal
use Rattle.interval_pool.proofs.Linking.{length_next}
use Rattle.interval_pool.proofs.Walking.{chain_few}
use Rattle.interval_pool.proofs.Valued.{seamed}
use Rattle.interval_pool.proofs.Extending.{pushed_all}

pub returns-clause-run : goal.returns-clause-run
returns-clause-run c = λ h not_free is_last.
    let ss : List Interval = c.args.intervals.now in
    let k : ℕ = c.args.list in
    let last = c.args.last in
    let items : List Cell = c.args.cells.now.items in
    let heads : List Head = c.args.heads.now in
    let n = length items in
    let small = c.requires.small in
    let some : 0 < length ss = (let e = c.is_empty.ensures in let f = c.if-is_empty.false in grind (e, f, arith, nat_tests)) in
    let at : length c.as_slice.result.now ≡ n = ap length c.as_slice.ensures.value in
    let few = chain_few items heads None (chain_of items heads) k h in
    let count = h.count k in
    let to : c.to-at.result ≡ Some n = c.to-at.ensures (omega (at, small, arith)) ∙ ap Some at in
    let led : c.put_next.new.cells ≡ with_next items last (Some n) = c.put_next.ensures ∙ (λ i. with_next (c.deref_mut.ensures.value i) last (to i)) in
    let len : c.saturating_add-len.result ≡ (head_at heads k).len + length ss = (let sum = c.saturating_add-len.ensures in let m = c.count.ensures in omega (sum, m, count, few, small, arith)) in
    let headed : c.put_head.new.heads ≡ with_head heads k last (Some n) ((head_at heads k).len + length ss) = c.put_head.ensures ∙ (λ i. with_head heads k last (to i) (len i)) in
    let many = ap length led ∙ length_next items last (Some n) in
    let size : length c.put_next.new.cells ≡ c.args.cells.now.len = (let a = ap length c.deref_mut.ensures.value in let b = c.deref_mut.ensures.len in omega (many, a, b, arith)) in
    let whole = seamed c.put_next.new.cells items c.args.cells.now.len size ∙ led in
    let pushed : c.push_cells.new.cells.items ≡ with_next items last (Some n) ++ run k n ss =
    c.push_cells.ensures.items ∙ (ap (λ cs. cs ++ run k (length cs) ss) whole ∙ ap (λ m. with_next items last (Some n) ++ run k m ss) (length_next items last (Some n))) in
    let P : List Cell → Type 0 = λ cs. Prolonged items heads k ss cs c.put_head.new.heads in
    let Q : List Head → Type 0 = λ hs. Prolonged items heads k ss (with_next items last (Some n) ++ run k n ss) hs in
    subst P (sym pushed) (subst Q (sym headed) (pushed_all ss items heads k last some h small not_free c.requires.there is_last))
