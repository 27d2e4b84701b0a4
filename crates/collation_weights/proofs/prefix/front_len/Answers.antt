use Rattle.std.proofs.Common.{◌+◌, ◌-◌, ◌≤◌, ◌++◌, length, take, drop, ap, subst, sym, ◌∙◌, arith}
use Rattle.std.specs.Prelude.{chars, encode_utf8, encode_utf8_all}
use Rattle.std.specs.Str.Iter.{chars_rest}
use Rattle.std.proofs.lemmas.Str.{IsUtf8-past_char, drop_past_char, length-encode}
use Rattle.collation_weights.proofs.Fronts.{one_more, no_more, of_empty, within}
use Rattle.collation_weights.proofs.prefix.front_len.Goals as goal

pub loop-c-preserved : goal.loop-c-preserved
loop-c-preserved c =
    let held = c.loop-c.invariant in
    let text = c.args.text.now in
    let len = c.loop-c.len in
    let char = c.in-Some.c in
    let behind = chars_rest c.next.new.self in
    let parts = c.in-Some.ensures.steps.0 in
    let value = c.len_utf8-len.ensures.value in (
      IsUtf8-past_char _ behind char held.0 parts,
      ap (λ n. drop (len + n) text) value ∙ drop_past_char text behind len char (held.1 ∙ parts),
      subst (λ n. len + n ≤ length text) (length-encode char ∙ sym value) (within text (encode_utf8 char) behind len held.2 (held.1 ∙ parts)),
      ap (λ n. take (len + n) text ++ encode_utf8_all (take (c.loop-c.left - 1) (chars behind))) value
          ∙ one_more text _ behind _ len c.loop-c.left char held.0 held.1 held.2 parts (omega (arith, c.if-left-eq0.false)) held.3,
    )

pub returns-clause-front : goal.returns-clause-front
returns-clause-front c =
    let held = c.loop-c.invariant in
    no_more c.args.text.now _ (chars (chars_rest c.loop-c.c-iterator)) c.loop-c.len c.loop-c.left
    (of_empty c.loop-c.left (chars_rest c.loop-c.c-iterator) c.in-None.ensures.steps.0.0) held.3
