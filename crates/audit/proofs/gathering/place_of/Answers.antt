use Rattle.std.proofs.Common.{◌≡◌, ◌<◌, sym, ◌∙◌, arith}
use Rattle.std.proofs.lemmas.Bool.{eqb-true, eq-eqb}
use Rattle.std.proofs.lemmas.Option.{slice_get_within}
use Rattle.lemmas.proofs.Tests.{not_both}
use Rattle.lemmas.proofs.Options.{none_some}
use Rattle.lemmas.proofs.Lists.{get_take}
use Rattle.audit.specs.Gathering.{Run}
use Rattle.audit.proofs.Gatherings.{none_further}
use Rattle.audit.proofs.Rising.{get_here}
use Rattle.audit.proofs.gathering.place_of.Goals as goal

pub loop-place-init : goal.loop-place-init
loop-place-init c = λ place run e own. none_some run e

pub loop-place-preserved : goal.loop-place-preserved
loop-place-preserved c =
    let run : Run = c.index-runs-place.result in
    let other : run.source ≡ c.args.source → ⊥ = λ own. not_both _ (eq-eqb c.source.result c.args.source (c.source.ensures ∙ own)) (sym c.eq.ensures ∙ c.if-eq.false) in
    none_further c.args.runs.now c.args.source c.loop-place.place run (get_here c.args.runs.now c.loop-place.place run c.loop-place-test.true c.index-runs-place.is) other c.loop-place.invariant

pub returns-then-eq-clause-found : goal.returns-then-eq-clause-found
returns-then-eq-clause-found c = record {
  run = c.index-runs-place.result;
  there = get_here c.args.runs.now c.loop-place.place c.index-runs-place.result c.loop-place-test.true c.index-runs-place.is;
  own = sym c.source.ensures ∙ eqb-true c.source.result c.args.source (sym c.eq.ensures ∙ c.if-eq.true);
}

pub returns-clause-none : goal.returns-clause-none
returns-clause-none c = λ _ place run h own.
    let low : place < c.loop-place.place = omega (arith, slice_get_within c.args.runs.now place run h, c.loop-place-test.false, c.loop-place.auto.place-end) in
    c.loop-place.invariant place run (get_take c.args.runs.now c.loop-place.place place run h low) own
