use Rattle.std.proofs.Common.{true, ◌≡◌, List, ℕ, ap, sym, subst, ◌∙◌, ◌++◌, ◌∷◌}
use Rattle.std.specs.List.{concat}
use Rattle.std.specs.Prelude.{IfErr}
use Rattle.interval_pool.specs.declared.interval.Interval.{Interval}
use Rattle.gtid_text.specs.declared.Span.{Span}
use Rattle.std.proofs.lemmas.Result.{on_ok_weaker}
use Rattle.gtid_set.specs.Spans.{is_merged}
use Rattle.gtid_set.specs.BySource.{IsTooLong}
use Rattle.gtid_set.specs.Kept.{span_of, spans_as, flat}
use Rattle.gtid_set.proofs.KeptGrowth.{IsNext, next_of, refused_next, grown_next}
use Rattle.gtid_set.proofs.KeptRuns.{run_behind}
use Rattle.gtid_set.proofs.kept.put_run.Goals as goal

-- the first of what is left is the next of all spans
next : (xs all : List Span) (id : ℕ) (rest more : List Interval) (first : Interval) → rest ≡ first ∷ more → xs ++ spans_as id rest ≡ all → is_merged all ≡ true → IsNext xs (span_of id first) (spans_as id more) all
next xs all id rest more first e parts merged = next_of xs (span_of id first) (spans_as id more) all (ap (λ is. xs ++ spans_as id is) (sym e) ∙ parts) merged

pub push-requires-clause-filled : goal.push-requires-clause-filled
push-requires-clause-filled c =
    (next (flat c.loop-first.pool c.loop-first.sources.items (concat c.loop-first.order.items)) _ c.args.id c.loop-first.rest.now c.in-Some.more.now c.in-Some.first.now c.in-Some.ensures.cases.0 c.loop-first.invariant.parts c.requires.merged).filled

pub push-requires-clause-before : goal.push-requires-clause-before
push-requires-clause-before c =
    (next (flat c.loop-first.pool c.loop-first.sources.items (concat c.loop-first.order.items)) _ c.args.id c.loop-first.rest.now c.in-Some.more.now c.in-Some.first.now c.in-Some.ensures.cases.0 c.loop-first.invariant.parts c.requires.merged).before

pub returns-in-Err-clause-full : goal.returns-in-Err-clause-full
returns-in-Err-clause-full c =
    refused_next (flat c.loop-first.pool c.loop-first.sources.items (concat c.loop-first.order.items)) (span_of c.args.id c.in-Some.first.now) (spans_as c.args.id c.in-Some.more.now) _ c.in-Err.fault
    (next (flat c.loop-first.pool c.loop-first.sources.items (concat c.loop-first.order.items)) _ c.args.id c.loop-first.rest.now c.in-Some.more.now c.in-Some.first.now c.in-Some.ensures.cases.0 c.loop-first.invariant.parts c.requires.merged)
    c.requires.fits c.in-Err.ensures.full

pub loop-first-preserved : goal.loop-first-preserved
loop-first-preserved c = record {
  kept = c.in-Ok.ensures.ok.kept;
  parts = grown_next c.loop-first.pool c.push.new.pool c.loop-first.sources.items c.push.new.sources.items (concat c.loop-first.order.items) (concat c.push.new.order.items) (span_of c.args.id c.in-Some.first.now) (spans_as c.args.id c.in-Some.more.now) _
      (next (flat c.loop-first.pool c.loop-first.sources.items (concat c.loop-first.order.items)) _ c.args.id c.loop-first.rest.now c.in-Some.more.now c.in-Some.first.now c.in-Some.ensures.cases.0 c.loop-first.invariant.parts c.requires.merged)
      c.in-Ok.ensures.ok;
}

pub extend_to-requires-clause-merged : goal.extend_to-requires-clause-merged
extend_to-requires-clause-merged c =
    let parts = grown_next c.loop-first.pool c.push.new.pool c.loop-first.sources.items c.push.new.sources.items (concat c.loop-first.order.items) (concat c.push.new.order.items) (span_of c.args.id c.in-Some.first.now) (spans_as c.args.id c.in-Some.more.now) _
    (next (flat c.loop-first.pool c.loop-first.sources.items (concat c.loop-first.order.items)) _ c.args.id c.loop-first.rest.now c.in-Some.more.now c.in-Some.first.now c.in-Some.ensures.cases.0 c.loop-first.invariant.parts c.requires.merged) c.in-Ok.ensures.ok in
    ap is_merged (run_behind c.push.new.pool c.push.new.sources.items c.deref-in-Some-2.result.now (concat c.push.new.order.items) (concat c.deref-in-Some-3.result.now) c.args.id c.in-Some-find_last.source.id c.in-Some.more.now
    c.deref-in-Some-2.ensures.value (ap concat c.deref-in-Some-3.ensures.value) c.in-Some-find_last.ensures.some.same ∙ parts) ∙ c.requires.merged

pub returns-in-Some-clause-parts : goal.returns-in-Some-clause-parts
returns-in-Some-clause-parts c =
    let parts = grown_next c.loop-first.pool c.push.new.pool c.loop-first.sources.items c.push.new.sources.items (concat c.loop-first.order.items) (concat c.push.new.order.items) (span_of c.args.id c.in-Some.first.now) (spans_as c.args.id c.in-Some.more.now) _
    (next (flat c.loop-first.pool c.loop-first.sources.items (concat c.loop-first.order.items)) _ c.args.id c.loop-first.rest.now c.in-Some.more.now c.in-Some.first.now c.in-Some.ensures.cases.0 c.loop-first.invariant.parts c.requires.merged) c.in-Ok.ensures.ok in
    let behind = run_behind c.push.new.pool c.push.new.sources.items c.deref-in-Some-2.result.now (concat c.push.new.order.items) (concat c.deref-in-Some-3.result.now) c.args.id c.in-Some-find_last.source.id c.in-Some.more.now
    c.deref-in-Some-2.ensures.value (ap concat c.deref-in-Some-3.ensures.value) c.in-Some-find_last.ensures.some.same ∙ parts in
    on_ok_weaker c.extend_to.result (λ run. (λ i. flat c.extend_to.new.pool (sym c.deref-in-Some-2.ensures.value i) (concat (sym c.deref-in-Some-3.ensures.value i))) ∙ run.parts ∙ behind) c.extend_to.ensures.ok

pub returns-in-Some-clause-full : goal.returns-in-Some-clause-full
returns-in-Some-clause-full c =
    let parts = grown_next c.loop-first.pool c.push.new.pool c.loop-first.sources.items c.push.new.sources.items (concat c.loop-first.order.items) (concat c.push.new.order.items) (span_of c.args.id c.in-Some.first.now) (spans_as c.args.id c.in-Some.more.now) _
    (next (flat c.loop-first.pool c.loop-first.sources.items (concat c.loop-first.order.items)) _ c.args.id c.loop-first.rest.now c.in-Some.more.now c.in-Some.first.now c.in-Some.ensures.cases.0 c.loop-first.invariant.parts c.requires.merged) c.in-Ok.ensures.ok in
    let behind = run_behind c.push.new.pool c.push.new.sources.items c.deref-in-Some-2.result.now (concat c.push.new.order.items) (concat c.deref-in-Some-3.result.now) c.args.id c.in-Some-find_last.source.id c.in-Some.more.now
    c.deref-in-Some-2.ensures.value (ap concat c.deref-in-Some-3.ensures.value) c.in-Some-find_last.ensures.some.same ∙ parts in
    subst (λ ss. IfErr c.extend_to.result (IsTooLong ss)) behind c.extend_to.ensures.full
