use Rattle.std.proofs.Common.{◌≡◌, ◌++◌, false, List, [], ap, sym, refl, ◌∙◌, Result, Ok, Err, Some, None}
use Rattle.std.specs.Prelude.{option_to_list, OnOk}
use Rattle.std.specs.Result.{is_err}
use Rattle.gtid_text.specs.Reading.{turn_at, spans_in, Turn}
use Rattle.gtid_text.specs.declared.Span.{Span}
use Rattle.gtid_text.proofs.Turns.{turn_shorter, starts, goes_on, is_done, fails}
use Rattle.gtid_text.proofs.set_text.whole_spans.Goals as goal

pub turns-init : goal.turns-init
turns-init c = ([], λ kept. c.new-spans.ensures.items, starts c.args.bytes.now [] refl)

pub turns-smaller-then-lost-2 : goal.turns-smaller-then-lost-2
turns-smaller-then-lost-2 c =
    let t : Turn = (c.in-Some.span, c.in-Some.next, c.in-Some.left.now) in
    let e : turn_at c.turns.inside c.turns.rest.now ≡ Ok (Some t) = rw c.in-Some.is at c.in-Ok.ensures in
    turn_shorter c.turns.inside c.turns.rest.now t e

pub turns-smaller : goal.turns-smaller
turns-smaller c =
    let t : Turn = (c.in-Some.span, c.in-Some.next, c.in-Some.left.now) in
    let e : turn_at c.turns.inside c.turns.rest.now ≡ Ok (Some t) = rw c.in-Some.is at c.in-Ok.ensures in
    turn_shorter c.turns.inside c.turns.rest.now t e

-- what was not refused was done
was_put : {T E P : Type 0} (r : Result T E) → is_err r ≡ false → OnOk r P → P
was_put (Ok x) e done = done
was_put (Err f) e done = absurd cc

-- nothing is kept any more
pub turns-preserved-then-lost-2 : goal.turns-preserved-then-lost-2
turns-preserved-then-lost-2 c =
    let t : Turn = (c.in-Some.span, c.in-Some.next, c.in-Some.left.now) in
    let e : turn_at c.turns.inside c.turns.rest.now ≡ Ok (Some t) = rw c.in-Some.is at c.in-Ok.ensures in
    let so_far = c.turns.invariant in
    (so_far.0 ++ option_to_list t.0, λ kept. absurd (let lost = c.if-lost-2.true in cc), goes_on so_far.0 c.turns.inside c.turns.rest.now t (spans_in c.args.bytes.now) e so_far.2)

pub turns-preserved : goal.turns-preserved
turns-preserved c =
    let t : Turn = (c.in-Some.span, c.in-Some.next, c.in-Some.left.now) in
    let e : turn_at c.turns.inside c.turns.rest.now ≡ Ok (Some t) = rw c.in-Some.is at c.in-Ok.ensures in
    let so_far = c.turns.invariant in (
      so_far.0 ++ option_to_list t.0,
      λ kept. was_put c.put.result (sym c.is_err-lost.ensures.value ∙ kept) c.put.ensures.items ∙ ap (λ (items : List Span). items ++ option_to_list t.0) (so_far.1 c.if-lost-2.false),
      goes_on so_far.0 c.turns.inside c.turns.rest.now t (spans_in c.args.bytes.now) e so_far.2,
    )

pub returns-in-None : goal.returns-in-None
returns-in-None c =
    let e : turn_at c.turns.inside c.turns.rest.now ≡ Ok None = rw c.in-None.is at c.in-Ok.ensures in
    let so_far = c.turns.invariant in
    (so_far.0, is_done so_far.0 c.turns.inside c.turns.rest.now (spans_in c.args.bytes.now) e so_far.2)

pub returns-in-None-2 : goal.returns-in-None-2
returns-in-None-2 c =
    let e : turn_at c.turns.inside c.turns.rest.now ≡ Ok None = rw c.in-None-2.is at c.in-Ok.ensures in
    let so_far = c.turns.invariant in
    is_done so_far.0 c.turns.inside c.turns.rest.now (spans_in c.args.bytes.now) e so_far.2 ∙ ap Ok (sym (so_far.1 c.if-lost.false))

pub returns-in-Err : goal.returns-in-Err
returns-in-Err c =
    let so_far = c.turns.invariant in
    fails so_far.0 c.turns.inside c.turns.rest.now c.in-Err.refusal (spans_in c.args.bytes.now) c.in-Err.ensures so_far.2
