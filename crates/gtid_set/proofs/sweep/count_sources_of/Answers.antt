use Rattle.std.proofs.Common.{length, arith, refl, ap, ◌∙◌, []}
use Rattle.std.specs.FinSet as set
use Rattle.std.proofs.lemmas.List.{append-nil, nil_from_length}
use Rattle.gtid_set.specs.Sweep.{sources_in}
use Rattle.gtid_set.proofs.SpanLemmas.{takes_left}
use Rattle.gtid_set.proofs.SourceLemmas.{count_end, count_step, bound_step, all_from_first, first_from, nothing_from}
use Rattle.gtid_set.proofs.sweep.count_sources_of.Goals as goal

pub with_new-count-requires : goal.with_new-count-requires
with_new-count-requires c =
    let long = ap length c.in-Some.ensures.cases.0 in
    let bound = c.loop-span.invariant.bound in
    let short = c.loop-span.invariant.short in
    omega (arith, long, bound, short)

pub loop-span-preserved : goal.loop-span-preserved
loop-span-preserved c =
    let inv = c.loop-span.invariant in
    let rest = c.loop-span.rest.now in
    let x = c.in-Some.span.now in
    let more = c.in-Some.more.now in
    let takes = takes_left rest [] x more c.in-Some.ensures.cases.0 inv.rest refl refl in
    record {
      rest = takes.left_rises;
      from = all_from_first x more takes.left_later;
      short = inv.short;
      bound = bound_step c.loop-span.last x.source c.loop-span.count c.with_new-count.result (length more) (length rest) _ (let s = takes.shorter in omega (arith, s)) c.with_new-count.ensures inv.bound;
      count = count_step c.loop-span.last rest [] x more [] c.loop-span.count c.with_new-count.result _ takes (first_from c.loop-span.last rest [] x more [] takes inv.from (nothing_from c.loop-span.last)) c.with_new-count.ensures inv.count;
    }

pub returns : goal.returns
returns c =
    count_end c.loop-span.last c.loop-span.rest.now [] c.loop-span.count _ (nil_from_length c.loop-span.rest.now c.in_default.ensures.cases) refl c.loop-span.invariant.count
    ∙ ap (λ ss. set.len (sources_in ss)) (append-nil c.args.spans.now)
