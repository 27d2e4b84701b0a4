use Rattle.std.proofs.Common.{◌≡◌, ◌+◌, ◌-◌, length, take, ap, subst, arith, List, ℕ}
use Rattle.std.specs.List.{concat}
use Rattle.gtid_set.specs.declared.sources.SourceList.{SourceList}
use Rattle.gtid_set.specs.Kept.{sources_at, IsSourcePlace, IsNoSourceAt}
use Rattle.gtid_set.proofs.OrderLemmas.{take_all}
use Rattle.gtid_set.proofs.KeptGrowth.{ends_at}
use Rattle.gtid_set.proofs.kept.push.Goals as goal

-- what was found of the slices, for the vectors
none_found : (sources sources' : List SourceList) (order order' : List (List ℕ)) (id : ℕ) → sources' ≡ sources → order' ≡ order → IsNoSourceAt (sources_at sources' (concat order')) (length (concat order') - 1) id → IsNoSourceAt (sources_at sources (concat order)) (length (concat order) - 1) id
none_found sources sources' order order' id s o none =
    subst (λ is. IsNoSourceAt (sources_at sources (concat is)) (length (concat is) - 1) id) o (subst (λ ss. IsNoSourceAt (sources_at ss (concat order')) (length (concat order') - 1) id) s none)

-- all come before the end
end_index : (blocks : List (List ℕ)) (n : ℕ) → n ≡ length blocks → length (concat blocks) ≡ length (concat (take n blocks)) + 0
end_index blocks n e = let all = ap (λ xs. length (concat xs)) (take_all blocks n (omega (arith, e))) in omega (arith, all)

pub insert-requires-clause-place : goal.insert-requires-clause-place
insert-requires-clause-place c =
    let long = ap length c.as_slice.ensures.value in
    subst (IsSourcePlace (sources_at c.args.sources.now.items (concat c.args.order.now.items)) c.args.span.now.source) (end_index c.args.order.now.items (length c.as_slice.result.now) long)
    (ends_at c.args.pool.now c.args.sources.now.items (concat c.args.order.now.items) c.args.span.now c.requires.kept c.requires.before
    (none_found c.args.sources.now.items c.deref.result.now c.args.order.now.items c.deref-2.result.now c.args.span.now.source c.deref.ensures.value c.deref-2.ensures.value c.in-None.ensures.none)).0

pub insert-requires-clause-new : goal.insert-requires-clause-new
insert-requires-clause-new c =
    (ends_at c.args.pool.now c.args.sources.now.items (concat c.args.order.now.items) c.args.span.now c.requires.kept c.requires.before
    (none_found c.args.sources.now.items c.deref.result.now c.args.order.now.items c.deref-2.result.now c.args.span.now.source c.deref.ensures.value c.deref-2.ensures.value c.in-None.ensures.none)).1
