use Rattle.std.proofs.Common.{◌≡◌, true, sym, subst, ap, ◌∙◌, List, ℕ}
use Rattle.std.specs.Prelude.{nat_lt, length}
use Rattle.std.specs.List.{concat}
use Rattle.std.proofs.lemmas.Bool.{and_parts}
use Rattle.interval_pool.specs.Values.{is_list, spans}
use Rattle.gtid_text.specs.declared.Span.{Span}
use Rattle.gtid_set.specs.declared.sources.SourceList.{SourceList}
use Rattle.gtid_set.specs.Spans.{has}
use Rattle.gtid_set.specs.Sweep.{HasSpan}
use Rattle.gtid_set.specs.Kept.{sources_at, is_filled, are_others, IsSourceOf}
use Rattle.gtid_set.proofs.KeptLemmas.{got_all, has_spans_of, knows_none}
use Rattle.gtid_set.proofs.KeptReads.{span_here, missing_here}
use Rattle.gtid_set.proofs.GuessLemmas.{placed}
use Rattle.gtid_set.proofs.kept.Kept.span_with.Goals as goal

pub returns-in_default-clause-none : goal.returns-in_default-clause-none
returns-in_default-clause-none c =
    let ss = sources_at c.self.inside.sources.items (concat c.self.inside.order.items) in
    let P : List SourceList → List (List ℕ) → Type 0 = λ sources order. are_others c.args.gtid.now.source (sources_at sources (concat order)) ≡ true in
    let others : are_others c.args.gtid.now.source ss ≡ true = subst (λ order. P c.self.inside.sources.items order) c.deref-2.ensures.value (subst (λ sources. P sources c.deref-2.result.now) c.deref.ensures.value c.in_default.ensures.none) in
    ap (λ xs. has xs c.args.gtid.now) (sym c.self.view_is) ∙ has_spans_of c.self.inside.pool ss c.args.gtid.now ∙ knows_none c.self.inside.pool ss c.args.gtid.now others

there : (c : goal.After-partition) → IsSourceOf (sources_at c.self.inside.sources.items (concat c.self.inside.order.items)) c.in-Some.source c.args.gtid.now.source
there c =
    let P : List SourceList → List (List ℕ) → Type 0 = λ sources order. IsSourceOf (sources_at sources (concat order)) c.in-Some.source c.args.gtid.now.source in
    subst (λ order. P c.self.inside.sources.items order) c.deref-2.ensures.value (subst (λ sources. P sources c.deref-2.result.now) c.deref.ensures.value c.in-Some.ensures.some)

pub interval_with-requires : goal.interval_with-requires
interval_with-requires c = record {
  list =
      (and_parts (is_list c.self.inside.pool c.in-Some.source.list) (nat_lt 0 (length (spans c.self.inside.pool c.in-Some.source.list)))
      (got_all (is_filled c.self.inside.pool) (sources_at c.self.inside.sources.items (concat c.self.inside.order.items)) (there c).at c.in-Some.source c.self.invariant.filled (there c).got)).0;
}

pub returns-in_default-interval_with-clause-none : goal.returns-in_default-interval_with-clause-none
returns-in_default-interval_with-clause-none c =
    let is = there c.before.before in
    ap (λ xs. has xs c.args.gtid.now) (sym c.self.view_is)
    ∙ missing_here c.self.inside.pool (sources_at c.self.inside.sources.items (concat c.self.inside.order.items)) is.at c.in-Some.source c.args.gtid.now c.self.invariant.rising (placed is) c.in_default-interval_with.ensures.none

pub returns-clause-some : goal.returns-clause-some
returns-clause-some c =
    let is = there c.before.before.before in
    subst (λ (xs : List Span). HasSpan xs c.args.gtid.now (record { source = c.args.gtid.now.source; lo = c.in-Some-interval_with.field-0.lo; hi = c.in-Some-interval_with.field-0.hi })) c.self.view_is
    (span_here c.self.inside.pool (sources_at c.self.inside.sources.items (concat c.self.inside.order.items)) is.at c.in-Some.source c.in-Some-interval_with.field-0 c.args.gtid.now c.self.invariant.rising c.partition.ensures.merged (placed is) c.in-Some-interval_with.ensures.one c.in-Some-interval_with.ensures.covers)
