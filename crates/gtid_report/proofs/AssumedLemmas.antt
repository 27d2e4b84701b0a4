-- What is assumed by lines, and what is implied among them.
use Rattle.std.proofs.Common.{arith, ◌≡◌, ℕ, suc, Bool, true, false, not, List, [], ◌∷◌, ◌++◌, length, cond, eqb, refl, sym, ap, ◌∙◌, append_assoc}
use Rattle.std.specs.Prelude.{codes, flat_map, nat_lt, ◌&&◌, ◌==◌}
use Rattle.std.proofs.lemmas.Bool.Decides.{nat_tests}
use Rattle.std.proofs.lemmas.List.{append-nil}
use Rattle.std.proofs.lemmas.List.Concat.{flat_map-append}
use Rattle.txn_journal.specs.Assumptions.{assumption_text, says_rows}
use Rattle.txn_journal.specs.BundleStates.{BundleValue}
use Rattle.txn_journal.specs.declared.assumptions.Assumption.{Assumption}
use Rattle.txn_journal.specs.declared.assumptions.Assumption.TheVariants.{References}
use Rattle.gtid_report.specs.Assumed.{is_implied, with_references, assumed, next_condition, conditions, assume_line, assume_lines}
use Rattle.gtid_report.specs.Joined.{joined, implied}

-- what is assumed, in three parts
assumed_cut : (b : BundleValue) (v : Bool) (before after : List Assumption) → is_implied b ≡ v → before ++ after ≡ b.assumptions → before ++ References ∷ after ≡ with_references b.assumptions
    → before ++ (implied v ++ after) ≡ assumed b
assumed_cut b true before after implies whole place = rw implies place
assumed_cut b false before after implies whole place = rw implies whole

pub lines_joined : (b : BundleValue) (before after : List Assumption) → before ++ after ≡ b.assumptions → before ++ References ∷ after ≡ with_references b.assumptions
    → assume_lines before ++ (assume_lines (implied (is_implied b)) ++ assume_lines after) ≡ assume_lines (assumed b)
lines_joined b before after whole place =
    let mid = implied (is_implied b) in
    ap (λ (t : List ℕ). assume_lines before ++ t) (sym (flat_map-append assume_line mid after))
    ∙ sym (flat_map-append assume_line before (mid ++ after))
    ∙ ap assume_lines (assumed_cut b (is_implied b) before after refl whole place)

not_none : (n : ℕ) → (suc n == 0) ≡ false
not_none n = grind (arith, nat_tests)

some_more : (n : ℕ) → nat_lt 0 (suc n) ≡ true
some_more n = grind (arith, nat_tests)

-- one part behind another
joined_both : (first : Bool) (said more : List Assumption) → joined first (said ++ more) ≡ joined first said ++ joined (first && (length said == 0)) more
joined_both true [] more = refl
joined_both true (a ∷ said) more =
    ap (λ (t : List ℕ). assumption_text a ++ t) (flat_map-append next_condition said more)
    ∙ sym (append_assoc (assumption_text a) (flat_map next_condition said) (flat_map next_condition more))
    ∙ ap (λ (f : Bool). conditions (a ∷ said) ++ joined f more) (sym (not_none (length said)))
joined_both false said more = flat_map-append next_condition said more

none_implied : (first v : Bool) → (first && (length (implied v) == 0)) ≡ (first && not v)
none_implied true true = refl
none_implied true false = refl
none_implied false v = refl

pub conditions_joined : (b : BundleValue) (v : Bool) (before after : List Assumption) → is_implied b ≡ v → before ++ after ≡ b.assumptions → before ++ References ∷ after ≡ with_references b.assumptions
    → joined true before ++ (joined (length before == 0) (implied v) ++ joined ((length before == 0) && not v) after) ≡ conditions (assumed b)
conditions_joined b v before after implies whole place =
    let empty = length before == 0 in
    ap (λ (t : List ℕ). joined true before ++ t) (ap (λ (f : Bool). joined empty (implied v) ++ joined f after) (sym (none_implied empty v)) ∙ sym (joined_both empty (implied v) after))
    ∙ sym (joined_both true before (implied v ++ after))
    ∙ ap conditions (assumed_cut b v before after implies whole place)

-- where a line says something, something is assumed
referred : (v : Bool) (a : Assumption) (said : List Assumption) → says_rows a ≡ v → nat_lt 0 (length (with_references (a ∷ said))) ≡ true
referred true a said e = rw e (some_more (length (a ∷ said)))
referred false a said e = rw e (some_more (length (with_references said)))

some_of : (v empty : Bool) (said : List Assumption) → empty ≡ (length said == 0) → not empty ≡ true → nat_lt 0 (length (cond v (with_references said) said)) ≡ true
some_of true empty [] e some = refl
some_of true empty (a ∷ said) e some = referred (says_rows a) a said refl
some_of false empty [] e some = absurd (let k = ap not e in let m = sym some ∙ k in cc)
some_of false empty (a ∷ said) e some = some_more (length said)

pub some_assumed : (b : BundleValue) (empty : Bool) (said : List Assumption) → said ≡ b.assumptions → empty ≡ (length said == 0) → not empty ≡ true → nat_lt 0 (length (assumed b)) ≡ true
some_assumed b empty said same e some = some_of (is_implied b) empty b.assumptions (e ∙ ap (λ (s : List Assumption). length s == 0) same) some

pub conditions_put : (out : List ℕ) (b : BundleValue) (v first still : Bool) (before after : List Assumption) → v ≡ is_implied b → first ≡ (length before == 0) → still ≡ (first && not v) → before ++ after ≡ b.assumptions → before ++ References ∷ after ≡ with_references b.assumptions
    → ((out ++ joined true before) ++ joined first (implied v)) ++ joined still after ≡ out ++ conditions (assumed b)
conditions_put out b v first still before after implies empty is whole place =
    append_assoc (out ++ joined true before) (joined first (implied v)) (joined still after)
    ∙ append_assoc out (joined true before) (joined first (implied v) ++ joined still after)
    ∙ ap (λ (t : List ℕ). out ++ t)
    ((λ i. joined true before ++ (joined (empty i) (implied v) ++ joined ((is ∙ ap (λ (f : Bool). f && not v) empty) i) after))
    ∙ conditions_joined b v before after (sym implies) whole place)
