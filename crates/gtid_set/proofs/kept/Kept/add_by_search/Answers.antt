use Rattle.std.proofs.Common.{subst, List, ℕ}
use Rattle.std.specs.List.{concat}
use Rattle.gtid_set.specs.declared.sources.SourceList.{SourceList}
use Rattle.gtid_set.specs.Kept.{sources_at, IsSourcePlace, IsNoSourceAt}
use Rattle.gtid_set.specs.Order.{IsSeat, index_of}
use Rattle.gtid_set.proofs.KeptLemmas.{others_at}
use Rattle.gtid_set.proofs.kept.Kept.add_by_search.Goals as goal

pub insert-requires-clause-new : goal.insert-requires-clause-new
insert-requires-clause-new c =
    let at = c.seat_of-at.result in
    let P : List SourceList → List (List ℕ) → Type 0 = λ sources blocks. IsSourcePlace (sources_at sources (concat blocks)) c.args.span.source (index_of blocks at) in
    let Q : List SourceList → List (List ℕ) → Type 0 = λ sources blocks. IsSeat blocks at → IsNoSourceAt (sources_at sources (concat blocks)) (index_of blocks at) c.args.span.source in
    others_at (sources_at c.self.inside.sources.items (concat c.self.inside.order.items)) c.args.span.source (index_of c.self.inside.order.items at) c.self.invariant.rising
    (subst (λ order. P c.self.inside.sources.items order) c.deref-2.ensures.value (subst (λ sources. P sources c.deref-2.result.now) c.deref.ensures.value c.seat_of-at.ensures.place))
    (subst (λ order. Q c.self.inside.sources.items order) c.deref-4.ensures.value (subst (λ sources. Q sources c.deref-4.result.now) c.deref-3.ensures.value c.in-None.ensures.none)
    (subst (λ order. IsSeat order at) c.deref-2.ensures.value c.seat_of-at.ensures.seat))
