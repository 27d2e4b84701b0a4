-- Texts that are put one behind another, as long as they fit.
use Rattle.std.proofs.Common.{◌≡◌, ℕ, Bool, true, false, nat_lt, List, ◌++◌, length, Option, Some, None, option_map, refl, sym, ap, ◌∙◌, append_assoc, arith, if◌then◌else◌}
use Rattle.std.proofs.lemmas.Bool.Decides.{nat_tests}
use Rattle.std.proofs.lemmas.List.{length-append}
use Rattle.binlog_rows.specs.Numbers.{and_then}
use Rattle.binlog_rows.specs.Texts.{then_text, within, Puts}

-- a text behind another, and one that fits
abbrev behind : List ℕ → Option (List ℕ) → Option (List ℕ)
behind old found = option_map (λ text. old ++ text) found

abbrev kept : Bool → List ℕ → Option (List ℕ)
kept over text = if over then None else Some text

neither : (over : Bool) (text : List ℕ) → None ≡ and_then (kept over text) (λ mid. within 0 None)
neither true text = refl
neither false text = refl

cut : (most : ℕ) (a y : List ℕ) (over : Bool) → nat_lt most (length a) ≡ over
    → kept (nat_lt most (length (a ++ y))) (a ++ y) ≡ and_then (kept over a) (λ mid. kept (nat_lt most (length (mid ++ y))) (mid ++ y))
cut most a y true e =
    let longer : nat_lt most (length (a ++ y)) ≡ true = grind (arith, nat_tests, length-append, e) in
    ap (λ over. kept over (a ++ y)) longer
cut most a y false e = refl

-- putting two texts is putting one and then the other
pub seam : (most : ℕ) (old : List ℕ) (a b : Option (List ℕ))
    → within most (behind old (then_text a b)) ≡ and_then (within most (behind old a)) (λ mid. within most (behind mid b))
seam most old None b = refl
seam most old (Some x) None = neither (nat_lt most (length (old ++ x))) (old ++ x)
seam most old (Some x) (Some y) =
    ap (λ text. kept (nat_lt most (length text)) text) (sym (append_assoc old x y))
    ∙ cut most (old ++ x) y (nat_lt most (length (old ++ x))) refl

pub puts_stop : (most : ℕ) (old new : List ℕ) (a b : Option (List ℕ)) → Puts most old new false a
    → None ≡ within most (behind old (then_text a b))
puts_stop most old new a b e = ap (λ (found : Option (List ℕ)). and_then found (λ mid. within most (behind mid b))) e ∙ sym (seam most old a b)

pub puts_on : (most : ℕ) (old mid : List ℕ) (a b : Option (List ℕ)) → Puts most old mid true a
    → within most (behind mid b) ≡ within most (behind old (then_text a b))
puts_on most old mid a b e = ap (λ (found : Option (List ℕ)). and_then found (λ m. within most (behind m b))) e ∙ sym (seam most old a b)
