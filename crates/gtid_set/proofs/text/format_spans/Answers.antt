use Rattle.std.proofs.Common.{◌∷◌, ap, sym, ◌∙◌, ◌++◌, Some}
use Rattle.std.specs.Prelude.{string_bytes, None}
use Rattle.std.proofs.lemmas.List.{append_assoc, append-nil}
use Rattle.gtid_text.specs.Canonical.{text_behind, next_text}
use Rattle.gtid_set.proofs.text.format_spans.Goals as goal

pub loop-span-init : goal.loop-span-init
loop-span-init c = ap (λ b. b ++ text_behind None c.args.spans) c.new-text.ensures.bytes

pub loop-span-preserved : goal.loop-span-preserved
loop-span-preserved c =
    let span = c.in-Some.span in
    let more = c.advance.new.self in
    let old = string_bytes c.loop-span.text in
    let tail = text_behind (Some span.source) more in
    ap (λ b. b ++ tail) c.in_ok-write_next_span.ensures.ok
    ∙ append_assoc old (next_text c.loop-span.before span) tail
    ∙ ap (λ r. old ++ text_behind c.loop-span.before r) (sym (c.in-Some.ensures.cases ∙ sym (ap (λ ss. span ∷ ss) c.advance.ensures)))
    ∙ c.loop-span.invariant

pub returns : goal.returns
returns c =
    sym (append-nil (string_bytes c.loop-span.text))
    ∙ ap (λ r. string_bytes c.loop-span.text ++ text_behind c.loop-span.before r) (sym c.in_default.ensures.cases)
    ∙ c.loop-span.invariant
