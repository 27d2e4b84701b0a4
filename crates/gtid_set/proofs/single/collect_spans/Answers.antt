use Rattle.std.proofs.Common.{ap, sym, ◌∙◌, ◌∷◌, ◌++◌, [], drop}
use Rattle.std.proofs.lemmas.List.{append_assoc, append-nil}
use Rattle.gtid_set.proofs.single.collect_spans.Goals as goal

pub loop-span-init : goal.loop-span-init
loop-span-init c = ap (λ xs. xs ++ c.args.spans) c.new-list.ensures.items

pub loop-span-preserved : goal.loop-span-preserved
loop-span-preserved c =
    let list = c.loop-span.list.items in
    (λ i. c.in_ok-push.ensures.items i ++ c.advance.ensures i)
    ∙ append_assoc list (c.in-Some.span ∷ []) (drop 1 c.loop-span.rest)
    ∙ ap (λ ss. list ++ ss) (sym c.in-Some.ensures.cases)
    ∙ c.loop-span.invariant

pub returns : goal.returns
returns c = sym (append-nil c.loop-span.list.items) ∙ ap (λ ss. c.loop-span.list.items ++ ss) (sym c.in_default.ensures.cases) ∙ c.loop-span.invariant
