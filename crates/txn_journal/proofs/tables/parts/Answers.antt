use Rattle.std.proofs.Common.{◌≡◌, ◌++◌, map, Some, List, ℕ, Bor, option_map, sym, ap, ◌∙◌}
use Rattle.row_images.specs.Parts.{behind, parts_of}
use Rattle.txn_journal.proofs.TableSteps.{behind-shorter, last_part, next_part}
use Rattle.txn_journal.proofs.tables.parts.Goals as goal
use Rattle.std.proofs.lemmas.List.{map_push}

abbrev texts : List (Bor (List ℕ)) → List (List ℕ)
texts xs = map (λ p. p.now) xs

pub parts-smaller : goal.parts-smaller
parts-smaller c =
    let e : behind c.args.separator c.parts.left.now ≡ Some c.in-Some.after.now = sym c.cut_at.ensures.rest ∙ ap (option_map (λ r. r.now)) c.in-Some.is in
    behind-shorter c.args.separator _ _ e

pub parts-preserved : goal.parts-preserved
parts-preserved c =
    next_part (parts_of c.args.separator c.args.text.now) (texts c.parts.parts.items) c.args.separator c.parts.left.now c.cut_at.result.0.now c.in-Some.after.now (option_map (λ r. r.now) c.cut_at.result.1) c.parts.invariant c.cut_at.ensures.part c.cut_at.ensures.rest (ap (option_map (λ r. r.now)) c.in-Some.is)
    ∙ ap (λ (t : List (List ℕ)). t ++ parts_of c.args.separator c.in-Some.after.now) (sym (ap texts c.in_ok-push.ensures.items ∙ map_push (λ (p : Bor (List ℕ)). p.now) c.parts.parts.items c.cut_at.result.0))

pub returns-in-None : goal.returns-in-None
returns-in-None c =
    ap texts c.in_ok-push.ensures.items ∙ map_push (λ (p : Bor (List ℕ)). p.now) c.parts.parts.items c.cut_at.result.0
    ∙ last_part (parts_of c.args.separator c.args.text.now) (texts c.parts.parts.items) c.args.separator c.parts.left.now c.cut_at.result.0.now (option_map (λ r. r.now) c.cut_at.result.1) c.parts.invariant c.cut_at.ensures.part c.cut_at.ensures.rest (ap (option_map (λ r. r.now)) c.in-None.is)
