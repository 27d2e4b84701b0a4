-- Parts of a text.
use Rattle.std.proofs.Common.{◌≡◌, ◌<◌, ◌*◌, ℕ, zero, suc, List, [], ◌∷◌, ◌++◌, map, Bor, sym, ap, ◌∙◌, append_assoc, arith}
use Rattle.std.specs.List.{concat}
use Rattle.std.proofs.lemmas.List.{append-nil, map_push}
use Rattle.std.proofs.lemmas.List.Folds.{concat-append}

abbrev pub joined : List (Bor (List ℕ)) → List ℕ
joined ps = concat (map (λ p. p.now) ps)

pub concat_push : (xs : List (List ℕ)) (x : List ℕ) → concat (xs ++ x ∷ []) ≡ concat xs ++ x
concat_push xs x = concat-append xs (x ∷ []) ∙ ap (λ (t : List ℕ). concat xs ++ t) (append-nil x)

pub joined_push : (ps : List (Bor (List ℕ))) (p : Bor (List ℕ)) → joined (ps ++ p ∷ []) ≡ joined ps ++ p.now
joined_push ps p = ap concat (map_push (λ (q : Bor (List ℕ)). q.now) ps p) ∙ concat_push (map (λ q. q.now) ps) p.now

-- one part more was cut off
pub part_cut : (ps : List (Bor (List ℕ))) (p : Bor (List ℕ)) (text left more : List ℕ) → text ≡ joined ps ++ left → left ≡ p.now ++ more → text ≡ joined (ps ++ p ∷ []) ++ more
part_cut ps p text left more so_far cut =
    so_far ∙ ap (λ (t : List ℕ). joined ps ++ t) cut ∙ sym (append_assoc (joined ps) p.now more) ∙ ap (λ (t : List ℕ). t ++ more) (sym (joined_push ps p))

-- a product of numbers that are not 0
pub product_some : (a b : ℕ) → 0 < a → 0 < b → 0 < a * b
product_some zero b h g = absurd (omega (h, arith))
product_some (suc a) zero h g = absurd (omega (g, arith))
product_some (suc a) (suc b) h g = omega arith
