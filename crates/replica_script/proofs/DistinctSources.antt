-- UUIDs that are new, one after another.
use Rattle.std.proofs.Common.{◌≡◌, ℕ, Bool, true, false, not, eqb, List, [], ◌∷◌, refl, sym, ap, subst, ◌∙◌, arith}
use Rattle.std.specs.Prelude.{◌&&◌, ◌||◌}
use Rattle.std.specs.List.{list_any}
use Rattle.std.specs.Ordering.{is_eq, match_ordering}
use Rattle.std.specs.declared.cmp.Ordering.{Ordering}
use Rattle.std.specs.declared.cmp.Ordering.TheVariants.{Less, Equal, Greater}
use Rattle.std.specs.BTreeSet.{insert_key}
use Rattle.std.proofs.lemmas.Bool.{eqb-true}
use Rattle.lemmas.proofs.Tests.{or_four, or_twice}
use Rattle.network.specs.Nodes.{ids_distinct}

-- each is new: neither among those seen nor one that came earlier
abbrev pub are_new_to : (ℕ → Bool) → List ℕ → Bool
are_new_to seen [] = true
are_new_to seen (own ∷ ids) = not (seen own) && are_new_to (λ v. eqb v own || seen v) ids

any_either : (own : ℕ) (seen : ℕ → Bool) (ids : List ℕ) → list_any (λ v. eqb v own || seen v) ids ≡ (list_any (λ v. eqb v own) ids || list_any seen ids)
any_either own seen [] = refl
any_either own seen (x ∷ xs) = rw (any_either own seen xs) (or_four (eqb x own) (seen x) (list_any (λ v. eqb v own) xs) (list_any seen xs))

both : (s a b d : Bool) → (not s && (not (a || b) && d)) ≡ (not (s || b) && (not a && d))
both s a b d = grind arith

new_both : (seen : ℕ → Bool) (ids : List ℕ) → are_new_to seen ids ≡ (not (list_any seen ids) && ids_distinct ids)
new_both seen [] = refl
new_both seen (x ∷ xs) = rw (new_both (λ v. eqb v x || seen v) xs, any_either x seen xs) (both (seen x) (list_any (λ v. eqb v x) xs) (list_any seen xs) (ids_distinct xs))

none_of : (ids : List ℕ) → list_any (λ v. false) ids ≡ false
none_of [] = refl
none_of (x ∷ xs) = none_of xs

-- none seen at first
pub new_all : (ids : List ℕ) → are_new_to (λ v. false) ids ≡ ids_distinct ids
new_all ids = new_both (λ v. false) ids ∙ rw (none_of ids) refl

-- ---- one more is seen, by an order in which what is equal is the same

abbrev pub IsExact : (ℕ → ℕ → Ordering) → Type 0
IsExact cmp = (x y : ℕ) → is_eq (cmp x y) ≡ eqb x y

or_swap : (a b r : Bool) → (b || (a || r)) ≡ (a || (b || r))
or_swap a b r = grind arith

abbrev pub seen_in : List ℕ → ℕ → Bool
seen_in keys v = list_any (λ k. eqb v k) keys

insert_on : (o : Ordering) (v w x : ℕ) (xs ys : List ℕ) → is_eq o ≡ eqb w x → seen_in ys v ≡ (eqb v w || seen_in xs v) → seen_in (match_ordering o (w ∷ x ∷ xs) (x ∷ xs) (x ∷ ys)) v ≡ (eqb v w || (eqb v x || seen_in xs v))
insert_on Less v w x xs ys e more = refl
insert_on Equal v w x xs ys e more =
    let same : w ≡ x = eqb-true w x (sym e) in
    subst (λ (t : ℕ). (eqb v t || seen_in xs v) ≡ (eqb v w || (eqb v t || seen_in xs v))) same (or_twice (eqb v w) (seen_in xs v))
insert_on Greater v w x xs ys e more = ap (λ (b : Bool). eqb v x || b) more ∙ or_swap (eqb v w) (eqb v x) (seen_in xs v)

seen_insert : (cmp : ℕ → ℕ → Ordering) → IsExact cmp → (keys : List ℕ) (w v : ℕ) → seen_in (insert_key cmp keys w) v ≡ (eqb v w || seen_in keys v)
seen_insert cmp exact [] w v = refl
seen_insert cmp exact (x ∷ xs) w v = insert_on (cmp w x) v w x xs (insert_key cmp xs w) (exact w x) (seen_insert cmp exact xs w v)

found_seen : (cmp : ℕ → ℕ → Ordering) → IsExact cmp → (keys : List ℕ) (w : ℕ) → list_any (λ k. is_eq (cmp w k)) keys ≡ seen_in keys w
found_seen cmp exact [] w = refl
found_seen cmp exact (k ∷ ks) w = rw (exact w k, found_seen cmp exact ks w) refl

-- the first of those that are left was not seen
pub new_next : (cmp : ℕ → ℕ → Ordering) → IsExact cmp → (keys new left more : List ℕ) (own : ℕ) (all : Bool) → left ≡ own ∷ more → are_new_to (seen_in keys) left ≡ all → list_any (λ k. is_eq (cmp own k)) keys ≡ false → new ≡ insert_key cmp keys own → are_new_to (seen_in new) more ≡ all
new_next cmp exact keys new left more own all parts so_far found inserted =
    let apart : seen_in keys own ≡ false = sym (found_seen cmp exact keys own) ∙ found in
    let seen : (v : ℕ) → seen_in new v ≡ (eqb v own || seen_in keys v) = λ v. ap (λ (t : List ℕ). seen_in t v) inserted ∙ seen_insert cmp exact keys own v in
    let after : are_new_to (seen_in new) more ≡ are_new_to (λ v. eqb v own || seen_in keys v) more = λ j. are_new_to (λ v. seen v j) more in
    let step : are_new_to (seen_in keys) left ≡ are_new_to (λ v. eqb v own || seen_in keys v) more = ap (are_new_to (seen_in keys)) parts ∙ ap (λ (b : Bool). not b && are_new_to (λ v. eqb v own || seen_in keys v) more) apart in
    after ∙ sym step ∙ so_far
