use Rattle.std.proofs.Common.{rules, ◌≡◌, sym, ◌∙◌, arith, Ok, Err, Some, None}
use Rattle.gtid_text.specs.Reading.{turn_at, Turn}
use Rattle.gtid_text.specs.Counting.{FindsNext, counts_as}
use Rattle.gtid_text.proofs.Turns.{turn_shorter}
use Rattle.gtid_text.proofs.Counted.{starts_count, counts_none, counts_found, counts_missed, counts_end, counts_fault, counts_at_most, end_counted}
use Rattle.gtid_text.proofs.counting.count_sources.Goals as goal

pub turns-init : goal.turns-init
turns-init c = (starts_count c.args.text.now, omega arith)

pub returns-in-Err : goal.returns-in-Err
returns-in-Err c =
    let e : turn_at c.turns.inside c.turns.rest.now ≡ Err c.in-Err.field-0 = search rules in
    sym (counts_fault c.turns.sources c.turns.before c.turns.left.now c.turns.inside c.turns.rest.now c.in-Err.field-0 e) ∙ c.turns.invariant.0

pub returns-in-None : goal.returns-in-None
returns-in-None c =
    let e : turn_at c.turns.inside c.turns.rest.now ≡ Ok None = rw c.in-None.is at c.in-Ok.ensures in
    c.end_count.ensures ∙ end_counted c.turns.sources c.turns.before c.turns.left.now c.is_some.result c.is_some.ensures
    ∙ sym (counts_end c.turns.sources c.turns.before c.turns.left.now c.turns.inside c.turns.rest.now e) ∙ c.turns.invariant.0

pub returns-in_err-left-in-Some : goal.returns-in_err-left-in-Some
returns-in_err-left-in-Some c =
    let s = c.in-Some-span.span in
    let t : Turn = (Some s, c.in-Some.next, c.in-Some.after.now) in
    let e : turn_at c.turns.inside c.turns.rest.now ≡ Ok (Some t) = rw (c.in-Some.is, c.in-Some-span.is) at c.in-Ok.ensures in
    let missed : FindsNext c.turns.before s c.turns.left.now None = search rules in
    let is : c.from_residual.result ≡ None = search rules in
    is ∙ sym (counts_missed c.turns.sources c.turns.before c.turns.left.now c.turns.inside c.turns.rest.now c.in-Some.next c.in-Some.after.now s e missed) ∙ c.turns.invariant.0

pub turns-smaller-in_ok-left-in-Some : goal.turns-smaller-in_ok-left-in-Some
turns-smaller-in_ok-left-in-Some c =
    let t : Turn = (Some c.in-Some-span.span, c.in-Some.next, c.in-Some.after.now) in
    let e : turn_at c.turns.inside c.turns.rest.now ≡ Ok (Some t) = rw (c.in-Some.is, c.in-Some-span.is) at c.in-Ok.ensures in
    turn_shorter c.turns.inside c.turns.rest.now t e

pub turns-preserved-in_ok-left-in-Some : goal.turns-preserved-in_ok-left-in-Some
turns-preserved-in_ok-left-in-Some c =
    let s = c.in-Some-span.span in
    let t : Turn = (Some s, c.in-Some.next, c.in-Some.after.now) in
    let e : turn_at c.turns.inside c.turns.rest.now ≡ Ok (Some t) = rw (c.in-Some.is, c.in-Some-span.is) at c.in-Ok.ensures in
    let found : FindsNext c.turns.before s c.turns.left.now (Some c.in_ok-left-in-Some.left.now) = search rules in
    let counted : c.counts_as-sources.result ≡ counts_as c.turns.before s = search rules in
    let few = counts_at_most c.turns.before s in
    let short = turn_shorter c.turns.inside c.turns.rest.now t e in
    let so_far = c.turns.invariant.1 in (
      rw counted (counts_found c.turns.sources c.turns.before c.turns.left.now c.turns.inside c.turns.rest.now c.in-Some.next c.in-Some.after.now s c.in_ok-left-in-Some.left.now e found ∙ c.turns.invariant.0),
      omega (arith, counted, few, short, so_far),
    )

pub turns-smaller : goal.turns-smaller
turns-smaller c =
    let t : Turn = (None, c.in-Some.next, c.in-Some.after.now) in
    let none : c.in-Some.span ≡ None = search rules in
    let e : turn_at c.turns.inside c.turns.rest.now ≡ Ok (Some t) = rw (c.in-Some.is, none) at c.in-Ok.ensures in
    turn_shorter c.turns.inside c.turns.rest.now t e

pub turns-preserved : goal.turns-preserved
turns-preserved c =
    let t : Turn = (None, c.in-Some.next, c.in-Some.after.now) in
    let none : c.in-Some.span ≡ None = search rules in
    let e : turn_at c.turns.inside c.turns.rest.now ≡ Ok (Some t) = rw (c.in-Some.is, none) at c.in-Ok.ensures in
    let short = turn_shorter c.turns.inside c.turns.rest.now t e in
    let so_far = c.turns.invariant.1 in (
      counts_none c.turns.sources c.turns.before c.turns.left.now c.turns.inside c.turns.rest.now c.in-Some.next c.in-Some.after.now e ∙ c.turns.invariant.0,
      omega (arith, short, so_far),
    )
