use Rattle.std.proofs.Common.{◌++◌, ◌∷◌, [], List, Bor, ℕ, sym, ap, ◌∙◌, append_assoc}
use Rattle.std.proofs.lemmas.List.{take-append-drop}
use Rattle.parallel_reading.proofs.Pieces.{joined, joined_push, part_cut}
use Rattle.parallel_reading.proofs.parts.parts_of.Goals as goal

pub parts-preserved : goal.parts-preserved
parts-preserved c =
    part_cut c.parts.parts.items c.split_at.result.0 c.args.text.now c.parts.left.now c.split_at.result.1.now c.parts.invariant
    (sym (take-append-drop c.args.size c.parts.left.now) ∙ (λ i. sym c.split_at.ensures.front i ++ sym c.split_at.ensures.back i))
    ∙ ap (λ (ps : List (Bor (List ℕ))). joined ps ++ c.split_at.result.1.now) (sym c.in_ok-push.ensures.items)

pub returns : goal.returns
returns c =
    let so_far = c.parts.parts.items in
    let last : Bor (List ℕ) = c.split_at-2.result.0 in
    let none : Bor (List ℕ) = c.split_at-2.result.1 in
    ap joined (c.in_ok-push-3.ensures.items ∙ ap (λ (ps : List (Bor (List ℕ))). ps ++ none ∷ []) c.in_ok-push-2.ensures.items)
    ∙ joined_push (so_far ++ last ∷ []) none
    ∙ ap (λ (t : List ℕ). t ++ none.now) (joined_push so_far last)
    ∙ append_assoc (joined so_far) last.now none.now
    ∙ ap (λ (t : List ℕ). joined so_far ++ t) ((λ i. c.split_at-2.ensures.front i ++ c.split_at-2.ensures.back i) ∙ take-append-drop _ c.parts.left.now)
    ∙ sym c.parts.invariant
