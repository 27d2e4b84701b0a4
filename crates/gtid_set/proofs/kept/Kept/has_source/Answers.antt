use Rattle.std.proofs.Common.{◌≡◌, sym, subst, ap, ◌∙◌, List, ℕ, true}
use Rattle.std.specs.List.{concat}
use Rattle.gtid_text.specs.declared.Span.{Span}
use Rattle.gtid_set.specs.declared.sources.SourceList.{SourceList}
use Rattle.gtid_set.specs.Sets.{gtid}
use Rattle.gtid_set.specs.Spans.{has}
use Rattle.gtid_set.specs.Sweep.{KnowsSource}
use Rattle.gtid_set.specs.Kept.{sources_at, are_others, IsSourceOf}
use Rattle.gtid_set.proofs.KeptChanges.{first_number}
use Rattle.gtid_set.proofs.KeptLemmas.{has_spans_of, knows_none}
use Rattle.gtid_set.proofs.kept.Kept.has_source.Goals as goal

pub returns-in-Some : goal.returns-in-Some
returns-in-Some c =
    let s = c.in-Some._source in
    let ss = sources_at c.self.inside.sources.items (concat c.self.inside.order.items) in
    let P : List SourceList → List (List ℕ) → Type 0 = λ sources order. IsSourceOf (sources_at sources (concat order)) s c.args.id in
    let there : IsSourceOf ss s c.args.id = subst (λ order. P c.self.inside.sources.items order) c.deref-2.ensures.value (subst (λ sources. P sources c.deref-2.result.now) c.deref.ensures.value c.in-Some.ensures.some) in
    subst (λ (xs : List Span). KnowsSource true xs c.args.id) c.self.view_is
    (subst (KnowsSource true _) there.same (first_number c.self.inside.pool ss there.at s c.self.invariant.rising there.got c.self.invariant.filled c.partition.ensures.merged))

pub returns-in-None : goal.returns-in-None
returns-in-None c n =
    let ss = sources_at c.self.inside.sources.items (concat c.self.inside.order.items) in
    let P : List SourceList → List (List ℕ) → Type 0 = λ sources order. are_others c.args.id (sources_at sources (concat order)) ≡ true in
    let others : are_others c.args.id ss ≡ true = subst (λ order. P c.self.inside.sources.items order) c.deref-2.ensures.value (subst (λ sources. P sources c.deref-2.result.now) c.deref.ensures.value c.in-None.ensures.none) in
    ap (λ xs. has xs (gtid c.args.id n)) (sym c.self.view_is) ∙ has_spans_of c.self.inside.pool ss (gtid c.args.id n) ∙ knows_none c.self.inside.pool ss (gtid c.args.id n) others
