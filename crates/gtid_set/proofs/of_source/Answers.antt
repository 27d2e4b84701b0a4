use Rattle.std.proofs.Common.{◌≤◌, ◌&&◌, ap, sym, subst, length, ◌∙◌, arith}
use Rattle.std.proofs.lemmas.Result.{IfOk-weaker}
use Rattle.gtid_set.specs.Sets.{source_count, most_sources}
use Rattle.gtid_set.specs.Spans.{has, is_merged, set_of}
use Rattle.gtid_set.specs.Sweep.{IsListOf, is_kept, is_sorted}
use Rattle.gtid_set.proofs.FaultLemmas.{crowded_small}
use Rattle.gtid_set.proofs.RunLemmas.{runs_merged}
use Rattle.gtid_set.proofs.SpanLemmas.{merged_rises}
use Rattle.gtid_set.proofs.SetSources.{fewer_listed, first_of_and, kept_held}
use Rattle.gtid_set.proofs.of_source.Goals as goal

pub from_fitting_spans-requires-clause-rises : goal.from_fitting_spans-requires-clause-rises
from_fitting_spans-requires-clause-rises c = ap is_sorted c.deref.ensures.value ∙ merged_rises c.in-Ok.spans.items c.in-Ok.ensures.list.merged

pub from_fitting_spans-requires-clause-fits : goal.from_fitting_spans-requires-clause-fits
from_fitting_spans-requires-clause-fits c =
    let list = subst (λ ss. IsListOf (λ q. has ss q && is_kept c.args.source c.args.wanted q.source) c.in-Ok.spans.items) c.cursor.ensures c.in-Ok.ensures.list in
    subst (λ ss. source_count (set_of ss) ≤ most_sources) (sym c.deref.ensures.value) (fewer_listed _ c.args.spans.now c.in-Ok.spans.items list (λ q h. first_of_and (has c.args.spans.now q) _ h) c.requires.kept.fits)

pub returns-clause-ok : goal.returns-clause-ok
returns-clause-ok c =
    let list = subst (λ ss. IsListOf (λ q. has ss q && is_kept c.args.source c.args.wanted q.source) c.in-Ok.spans.items) c.cursor.ensures c.in-Ok.ensures.list in
    IfOk-weaker c.from_fitting_spans.result _ _ (λ s e. e ∙ ap set_of c.deref.ensures.value ∙ kept_held c.args.spans.now c.in-Ok.spans.items c.args.source c.args.wanted list) c.from_fitting_spans.ensures.ok

pub returns-clause-fault : goal.returns-clause-fault
returns-clause-fault c =
    let few = c.in-Ok.ensures.few in
    let long = ap length c.cursor.ensures in
    let same = ap length c.deref.ensures.value in
    let small = c.requires.kept.small in
    let count = ap length (runs_merged c.deref.result.now (ap is_merged c.deref.ensures.value ∙ c.in-Ok.ensures.list.merged)) in
    crowded_small c.from_fitting_spans.result (set_of c.deref.result.now) (omega (arith, few, long, same, small, count)) c.from_fitting_spans.ensures.full
