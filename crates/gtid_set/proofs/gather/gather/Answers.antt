use Rattle.std.proofs.Common.{◌++◌, [], sym, subst, ◌∙◌, refl}
use Rattle.gtid_set.specs.declared.combine.Operation.TheVariants.{Union}
use Rattle.std.proofs.lemmas.List.{nil_from_length}
use Rattle.lemmas.proofs.Tests.{or_none}
use Rattle.gtid_set.specs.Spans.{has, set_of}
use Rattle.gtid_set.specs.Kept.{spans_as}
use Rattle.gtid_set.proofs.SetLemmas.{contains-set_of}
use Rattle.gtid_set.proofs.CombineLemmas.{IsMaking, none_made, made_fits, made_long, all_made, kept_short}
use Rattle.gtid_set.proofs.GatherLemmas.{rises_from, gathered_more, gathered_shorter}
use Rattle.gtid_set.proofs.gather.gather.Goals as goal

pub loop-first-init : goal.loop-first-init
loop-first-init c = record {
  rising = c.requires.rises;
  making = none_made Union (set_of c.args.spans.now) c.open-kept.result c.args.spans.now [] c.open-kept.ensures (λ q. contains-set_of c.args.spans.now q ∙ sym (or_none (has c.args.spans.now q)));
}

pub join_source-requires-clause-from : goal.join_source-requires-clause-from
join_source-requires-clause-from c = rises_from c.loop-first.rest.now c.in-Some.first.now c.in-Some._more.now c.in-Some.ensures.cases.0 c.loop-first.invariant.rising

pub put-requires-clause-merged : goal.put-requires-clause-merged
put-requires-clause-merged c =
    (gathered_more (set_of c.args.spans.now) c.loop-first.kept c.loop-first.rest.now c.in-Ok.behind.now c.in-Some.first.now c.in-Some._more.now c.join_source.new.run.items c.deref.result.now
    c.loop-first.invariant.making c.in-Some.ensures.cases.0 c.in-Ok.ensures c.deref.ensures.value).merged

pub put-requires-clause-fits : goal.put-requires-clause-fits
put-requires-clause-fits c =
    made_fits Union (set_of c.args.spans.now) (c.loop-first.kept ++ spans_as c.in-Some.first.now.source c.deref.result.now) c.in-Ok.behind.now []
    (gathered_more (set_of c.args.spans.now) c.loop-first.kept c.loop-first.rest.now c.in-Ok.behind.now c.in-Some.first.now c.in-Some._more.now c.join_source.new.run.items c.deref.result.now
    c.loop-first.invariant.making c.in-Some.ensures.cases.0 c.in-Ok.ensures c.deref.ensures.value) c.requires.fits

pub loop-first-smaller : goal.loop-first-smaller
loop-first-smaller c = gathered_shorter c.loop-first.rest.now c.in-Ok.behind.now c.in-Some.first.now c.in-Some._more.now c.join_source.new.run.items c.in-Some.ensures.cases.0 c.in-Ok.ensures

pub loop-first-preserved : goal.loop-first-preserved
loop-first-preserved c = record {
  rising = c.in-Ok.ensures.rises;
  making = subst (λ ss. IsMaking Union (set_of c.args.spans.now) ss c.in-Ok.behind.now []) (sym c.in-Ok-put.ensures.ok)
      (gathered_more (set_of c.args.spans.now) c.loop-first.kept c.loop-first.rest.now c.in-Ok.behind.now c.in-Some.first.now c.in-Some._more.now c.join_source.new.run.items c.deref.result.now
      c.loop-first.invariant.making c.in-Some.ensures.cases.0 c.in-Ok.ensures c.deref.ensures.value);
}

pub returns-in-Err-put-clause-full : goal.returns-in-Err-put-clause-full
returns-in-Err-put-clause-full c =
    made_long Union (set_of c.args.spans.now) (c.loop-first.kept ++ spans_as c.in-Some.first.now.source c.deref.result.now) c.in-Ok.behind.now [] c.in-Err-put.fault
    (gathered_more (set_of c.args.spans.now) c.loop-first.kept c.loop-first.rest.now c.in-Ok.behind.now c.in-Some.first.now c.in-Some._more.now c.join_source.new.run.items c.deref.result.now
    c.loop-first.invariant.making c.in-Some.ensures.cases.0 c.in-Ok.ensures c.deref.ensures.value) c.in-Err-put.ensures.full

pub returns-clause-ok : goal.returns-clause-ok
returns-clause-ok c = all_made Union (set_of c.args.spans.now) c.loop-first.kept c.loop-first.rest.now [] c.loop-first.invariant.making (nil_from_length c.loop-first.rest.now c.in_default.ensures.cases) refl

pub returns-clause-full : goal.returns-clause-full
returns-clause-full c =
    kept_short (set_of c.args.spans.now) c.loop-first.kept c.is_kept.ensures
    (all_made Union (set_of c.args.spans.now) c.loop-first.kept c.loop-first.rest.now [] c.loop-first.invariant.making (nil_from_length c.loop-first.rest.now c.in_default.ensures.cases) refl)
