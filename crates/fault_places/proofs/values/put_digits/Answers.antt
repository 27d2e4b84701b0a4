use Rattle.std.proofs.Common.{◌≡◌, ℕ, List, ◌++◌, OnOk, codes, append_assoc, ap, ◌∙◌, subst}
use Rattle.std.specs.Prelude.{decimal}
use Rattle.fault_places.proofs.values.put_digits.Goals as goal

-- five texts, one after another
five : (out a b c d e : List ℕ) → ((((out ++ a) ++ b) ++ c) ++ d) ++ e ≡ out ++ ((((a ++ b) ++ c) ++ d) ++ e)
five out a b c d e = simp append_assoc

pub returns : goal.returns
returns c =
    let out : List ℕ = c.args.out.now.items in
    let count : List ℕ = decimal c.args.count in
    let bytes : List ℕ = codes " bytes, from byte " in
    let from : List ℕ = decimal c.args.from in
    let x : List ℕ = codes ": x" in
    let digits : List ℕ = c.args.digits.now in
    subst (λ (text : List ℕ). OnOk c.put_word.result (c.put_word.new.out.items ≡ text))
    (ap (λ (text : List ℕ). text ++ digits)
    (c.in_ok-put-2.ensures ∙ ap (λ (text : List ℕ). text ++ x)
    (c.in_ok-put_number-2.ensures ∙ ap (λ (text : List ℕ). text ++ from)
    (c.in_ok-put.ensures ∙ ap (λ (text : List ℕ). text ++ bytes) c.in_ok-put_number.ensures)))
    ∙ five out count bytes from x digits) c.put_word.ensures
