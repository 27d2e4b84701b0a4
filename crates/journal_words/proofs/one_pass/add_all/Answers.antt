use Rattle.std.proofs.Common.{rules, sym, subst, ap, ◌∙◌, ◌≡◌, [], length, Some}
use Rattle.std.proofs.lemmas.List.{nil_from_length}
use Rattle.journal_words.specs.WordPrefix.{Promises}
use Rattle.journal_words.proofs.OnePassLemmas.{shorter, promised_next, promised_last}
use Rattle.journal_words.proofs.one_pass.add_all.Goals as goal

pub spans-init : goal.spans-init
spans-init c = record { usable = c.requires; promise = λ word p. p }

pub read_next-requires : goal.read_next-requires
read_next-requires c = c.spans.invariant.usable

pub spans-smaller : goal.spans-smaller
spans-smaller c = shorter c.spans.rest.now c.in-Some.after.now c.spans.last c.in-Some.span c.in-Some.ensures

pub spans-preserved : goal.spans-preserved
spans-preserved c = record {
  usable = c.in-Some.ensures.usable;
  promise = λ word p. subst (λ s. Promises word s c.in-Some.span c.in-Some.after.now) (sym c.in-Ok.ensures.ok)
      (promised_next word c.spans.rest.now c.in-Some.after.now c.spans.set c.spans.last c.in-Some.span (c.spans.invariant.promise word p) c.in-Some.ensures);
}

pub returns : goal.returns
returns c =
    let none : length c.spans.rest.now ≡ 0 = search rules in
    let end : c.spans.rest.now ≡ [] = nil_from_length c.spans.rest.now none in
    λ all word p. promised_last word c.spans.rest.now c.spans.set c.spans.last (c.spans.invariant.promise word p) end ∙ ap Some (sym c.in-Ok-add_span.ensures.ok)
