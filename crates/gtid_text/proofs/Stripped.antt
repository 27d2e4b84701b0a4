-- What is left of a text after a front of it.
use Rattle.std.proofs.Common.{◌≡◌, ℕ, ◌+◌, true, false, eqb, List, [], ◌∷◌, ◌++◌, length, take, drop, Option, Some, None, refl, sym, ap, subst, ◌∙◌, append_assoc, Bor, MatchOption}
use Rattle.std.specs.Prelude.{option_map, decimal}
use Rattle.std.specs.Cmp.Lexicographic.{pointwise}
use Rattle.std.proofs.lemmas.Slice.Eq.{strip_prefix_is}
use Rattle.std.proofs.lemmas.Bool.Decides.{Decides-eqb}
use Rattle.std.proofs.lemmas.Bool.{ne_eqb}
use Rattle.gtid_text.specs.Canonical.{numbers_text}
use Rattle.gtid_text.specs.Counting.{Strips}

-- what a slice says of its front
pub stripped : (text front as_read : List ℕ) (r : Option (Bor (List ℕ))) → as_read ≡ front
    → MatchOption r (pointwise eqb (take (length as_read) text) as_read ≡ false) (λ x. (pointwise eqb (take (length as_read) text) as_read ≡ true) × (x.now ≡ drop (length as_read) text) × (length x.now + length as_read ≡ length text))
    → Strips text front (option_map (λ r. r.now) r)
stripped text front as_read r e m = subst (λ (f : List ℕ). Strips text f (option_map (λ r. r.now) r)) e (plain r (strip_prefix_is Decides-eqb text as_read r m))
  where
    plain : (r : Option (Bor (List ℕ))) → MatchOption r ((rest : List ℕ) → text ≡ as_read ++ rest → ⊥) (λ x. text ≡ as_read ++ x.now) → Strips text as_read (option_map (λ r. r.now) r)
    plain None m = m
    plain (Some x) m = m

pub same_behind : (p a b : List ℕ) → p ++ a ≡ p ++ b → a ≡ b
same_behind [] a b e = e
same_behind (x ∷ p) a b e = same_behind p a b (ap (λ (l : List ℕ). drop 1 l) e)

-- two fronts, one after the other
pub stripped_both : (text p q after : List ℕ) (r : Option (List ℕ)) → text ≡ p ++ after → Strips after q r → Strips text (p ++ q) r
stripped_both text p q after None e m = λ rest f. m rest (same_behind p after (q ++ rest) (sym e ∙ f ∙ append_assoc p q rest))
stripped_both text p q after (Some rest) e m = e ∙ ap (λ (l : List ℕ). p ++ l) m ∙ sym (append_assoc p q rest)

-- a text without a front has no longer one
pub stripped_none : (text p q : List ℕ) → Strips text p None → Strips text (p ++ q) None
stripped_none text p q m = λ rest e. m (q ++ rest) (e ∙ append_assoc p q rest)

two_numbers : (lo hi : ℕ) → (lo ≡ hi → ⊥) → numbers_text lo hi ≡ decimal lo ++ 45 ∷ decimal hi
two_numbers lo hi ne = rw (ne_eqb lo hi ne) refl

pub stripped_numbers : (text after : List ℕ) (lo hi : ℕ) (r : Option (List ℕ)) → (lo ≡ hi → ⊥) → text ≡ decimal lo ++ after → Strips after (45 ∷ decimal hi) r → Strips text (numbers_text lo hi) r
stripped_numbers text after lo hi r ne e m = subst (λ (f : List ℕ). Strips text f r) (sym (two_numbers lo hi ne)) (stripped_both text (decimal lo) (45 ∷ decimal hi) after r e m)
