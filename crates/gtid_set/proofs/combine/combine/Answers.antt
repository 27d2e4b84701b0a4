use Rattle.std.proofs.Common.{◌≡◌, ◌++◌, sym, subst, refl, List}
use Rattle.interval_pool.specs.declared.interval.Interval.{Interval}
use Rattle.gtid_text.specs.declared.Span.{Span}
use Rattle.gtid_set.specs.declared.combine.Operation.{Operation}
use Rattle.gtid_set.specs.Sets.{Gtids}
use Rattle.gtid_set.specs.Spans.{set_of, has}
use Rattle.gtid_set.specs.Sweep.{IsListOf}
use Rattle.gtid_set.specs.Kept.{spans_as}
use Rattle.gtid_set.specs.Numbers.{all_numbered}
use Rattle.gtid_set.specs.BySource.{combination, combines, IsNextSource, TakesSource}
use Rattle.gtid_set.proofs.CombineLemmas.{IsMaking, made_of, none_made, made_more, made_fits, made_long, all_made, kept_short, parts_of, next_from, next_shorter, taken_merged}
use Rattle.gtid_set.proofs.combine.combine.Goals as goal

pub loop-id-init : goal.loop-id-init
loop-id-init c = record {
  left = c.requires.left;
  right = c.requires.right;
  making = none_made c.args.operation (combination c.args.operation (set_of c.args.left) (set_of c.args.right)) c.open-kept.result c.args.left c.args.right c.open-kept.ensures (made_of c.args.operation c.args.left c.args.right);
}

pub sweep-requires-clause-left : goal.sweep-requires-clause-left
sweep-requires-clause-left c = (taken_merged c.loop-id.left c.in-Some.id c.take-mine.result c.take-mine.new.self c.take-mine.ensures c.loop-id.invariant.left).0

pub sweep-requires-clause-right : goal.sweep-requires-clause-right
sweep-requires-clause-right c = (taken_merged c.loop-id.right c.in-Some.id c.take-theirs.result c.take-theirs.new.self c.take-theirs.ensures c.loop-id.invariant.right).0

-- one source more
step : (o : Operation) (s : Gtids) (out left right left' right' : List Span) (id : _) (mine theirs run run' : List Interval) → IsMaking o s out left right → IsNextSource left right id → TakesSource left id mine left' → TakesSource right id theirs right'
    → IsListOf (λ q. combines o (has (all_numbered mine) q) (has (all_numbered theirs) q)) (all_numbered run) → run' ≡ run → IsMaking o s (out ++ spans_as id run') left' right'
step o s out left right left' right' id mine theirs run run' h next l r list same =
    subst (λ is. IsMaking o s (out ++ spans_as id is) left' right') (sym same)
    (made_more o s out left right left' right' id mine theirs run h (next_from o s out left right id h next) (parts_of left id mine left' l) (parts_of right id theirs right' r) list)

pub put-requires-clause-merged : goal.put-requires-clause-merged
put-requires-clause-merged c =
    (step c.args.operation (combination c.args.operation (set_of c.args.left) (set_of c.args.right)) c.loop-id.kept c.loop-id.left c.loop-id.right c.take-mine.new.self c.take-theirs.new.self c.in-Some.id c.take-mine.result c.take-theirs.result c.sweep.new.run.items c.deref.result.now
    c.loop-id.invariant.making c.in-Some.ensures.some c.take-mine.ensures c.take-theirs.ensures c.in-Ok.ensures c.deref.ensures.value).merged

pub put-requires-clause-fits : goal.put-requires-clause-fits
put-requires-clause-fits c =
    made_fits c.args.operation (combination c.args.operation (set_of c.args.left) (set_of c.args.right)) (c.loop-id.kept ++ spans_as c.in-Some.id c.deref.result.now) c.take-mine.new.self c.take-theirs.new.self
    (step c.args.operation (combination c.args.operation (set_of c.args.left) (set_of c.args.right)) c.loop-id.kept c.loop-id.left c.loop-id.right c.take-mine.new.self c.take-theirs.new.self c.in-Some.id c.take-mine.result c.take-theirs.result c.sweep.new.run.items c.deref.result.now
    c.loop-id.invariant.making c.in-Some.ensures.some c.take-mine.ensures c.take-theirs.ensures c.in-Ok.ensures c.deref.ensures.value) c.requires.fits

pub loop-id-smaller : goal.loop-id-smaller
loop-id-smaller c = next_shorter c.loop-id.left c.loop-id.right c.take-mine.new.self c.take-theirs.new.self c.in-Some.id c.take-mine.result c.take-theirs.result c.in-Some.ensures.some c.take-mine.ensures c.take-theirs.ensures

pub loop-id-preserved : goal.loop-id-preserved
loop-id-preserved c = record {
  left = (taken_merged c.loop-id.left c.in-Some.id c.take-mine.result c.take-mine.new.self c.take-mine.ensures c.loop-id.invariant.left).1;
  right = (taken_merged c.loop-id.right c.in-Some.id c.take-theirs.result c.take-theirs.new.self c.take-theirs.ensures c.loop-id.invariant.right).1;
  making = subst (λ ss. IsMaking c.args.operation (combination c.args.operation (set_of c.args.left) (set_of c.args.right)) ss c.take-mine.new.self c.take-theirs.new.self) (sym c.in-Ok-put.ensures.ok)
      (step c.args.operation (combination c.args.operation (set_of c.args.left) (set_of c.args.right)) c.loop-id.kept c.loop-id.left c.loop-id.right c.take-mine.new.self c.take-theirs.new.self c.in-Some.id c.take-mine.result c.take-theirs.result c.sweep.new.run.items c.deref.result.now
      c.loop-id.invariant.making c.in-Some.ensures.some c.take-mine.ensures c.take-theirs.ensures c.in-Ok.ensures c.deref.ensures.value);
}

pub returns-in-Err-clause-full : goal.returns-in-Err-clause-full
returns-in-Err-clause-full c =
    made_long c.args.operation (combination c.args.operation (set_of c.args.left) (set_of c.args.right)) (c.loop-id.kept ++ spans_as c.in-Some.id c.deref.result.now) c.take-mine.new.self c.take-theirs.new.self c.in-Err.fault
    (step c.args.operation (combination c.args.operation (set_of c.args.left) (set_of c.args.right)) c.loop-id.kept c.loop-id.left c.loop-id.right c.take-mine.new.self c.take-theirs.new.self c.in-Some.id c.take-mine.result c.take-theirs.result c.sweep.new.run.items c.deref.result.now
    c.loop-id.invariant.making c.in-Some.ensures.some c.take-mine.ensures c.take-theirs.ensures c.in-Ok.ensures c.deref.ensures.value) c.in-Err.ensures.full

pub returns-clause-ok : goal.returns-clause-ok
returns-clause-ok c =
    let none = c.in_default.ensures.none refl in
    all_made c.args.operation (combination c.args.operation (set_of c.args.left) (set_of c.args.right)) c.loop-id.kept c.loop-id.left c.loop-id.right c.loop-id.invariant.making none.0 none.1

pub returns-clause-full : goal.returns-clause-full
returns-clause-full c =
    let none = c.in_default.ensures.none refl in
    kept_short (combination c.args.operation (set_of c.args.left) (set_of c.args.right)) c.loop-id.kept c.is_kept.ensures
    (all_made c.args.operation (combination c.args.operation (set_of c.args.left) (set_of c.args.right)) c.loop-id.kept c.loop-id.left c.loop-id.right c.loop-id.invariant.making none.0 none.1)
