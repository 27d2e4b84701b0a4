use Rattle.std.proofs.Common.{◌≡◌, ℕ, List, ◌++◌, OnOk, codes, map, append_assoc, ap, ◌∙◌, subst}
use Rattle.fault_places.specs.Due.{due_at}
use Rattle.fault_places.proofs.refusal_text.put_due.Goals as goal

pub returns : goal.returns
returns c =
    let due : List ℕ = due_at (map (λ x. x.now) c.args.lines.now) c.args.number in
    let out : List ℕ = c.args.out.now.items in
    let head : List ℕ = codes "  due here: " in
    let end : List ℕ = codes "\n" in
    subst (λ (text : List ℕ). OnOk c.put-3.result (c.put-3.new.out.items ≡ text))
    (ap (λ (text : List ℕ). text ++ end)
    (c.in_ok-put-2.ensures ∙ ap (λ (text : List ℕ). text ++ c.due_at.result.now) c.in_ok-put.ensures ∙ ap (λ (text : List ℕ). (out ++ head) ++ text) c.due_at.ensures)
    ∙ append_assoc (out ++ head) due end
    ∙ append_assoc out head (due ++ end)) c.put-3.ensures
