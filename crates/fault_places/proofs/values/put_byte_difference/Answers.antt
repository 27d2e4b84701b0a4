use Rattle.std.proofs.Common.{◌≡◌, ℕ, List, ◌++◌, OnOk, codes, append_assoc, ap, ◌∙◌, subst}
use Rattle.std.specs.Prelude.{decimal}
use Rattle.fault_places.proofs.values.put_byte_difference.Goals as goal

pub returns : goal.returns
returns c =
    let out : List ℕ = c.args.out.now.items in
    let head : List ℕ = codes ", from byte " in
    let at : List ℕ = decimal c.args.at in
    let end : List ℕ = codes " on:\n" in
    subst (λ (text : List ℕ). OnOk c.put-2.result (c.put-2.new.out.items ≡ text))
    (ap (λ (text : List ℕ). text ++ end) (c.in_ok-put_number.ensures ∙ ap (λ (text : List ℕ). text ++ at) c.in_ok-put.ensures)
    ∙ append_assoc (out ++ head) at end ∙ append_assoc out head (at ++ end)) c.put-2.ensures
