-- The least node that passes one of two tests, and the counts of the keys that wait.
use Rattle.std.proofs.Common.{◌≡◌, ℕ, zero, suc, ◌+◌, ◌<◌, ◌≤◌, Bool, true, false, not, cond, ◌||◌, ◌&&◌, List, [], ◌∷◌, ◌++◌, take, Option, Some, None, refl, sym, ap, ◌∙◌, arith}
use Rattle.std.specs.Prelude.{nat_lt, nat_eq, is_none, unwrap_or}
use Rattle.std.proofs.lemmas.Bool.{lt-ltb, le-ltb}
use Rattle.std.proofs.lemmas.List.Folds.{list_any-append}
use Rattle.std.proofs.Math.Dec.{eqb-suc-zero}
use Rattle.dependency_graph.specs.Graphs.{Point, least, is_open_at, holds_back}
use Rattle.rows.specs.declared.change.Key.{Key}
use Rattle.dependency_graph.specs.Kept.{is_below, waiting}
use mathlib.Core.Bool.{or-false}

-- the least so far, or an earlier one
abbrev pub earlier : ℕ → Option ℕ → Option ℕ → Option ℕ
earlier n best None = best
earlier n best (Some f) = cond (nat_lt f (unwrap_or best n)) (Some f) best

from_cond : (b : Bool) (at f : ℕ) (rest : Option ℕ) → (rest ≡ Some f → at < f) → cond b (Some at) rest ≡ Some f → at ≤ f
from_cond true at f rest h e = let same : at ≡ f = cc in omega (same, arith)
from_cond false at f rest h e = let far : at < f = h e in omega (far, arith)

pub least_from : (p : Point → Bool) (at : ℕ) (xs : List Point) (f : ℕ) → least p at xs ≡ Some f → at ≤ f
least_from p at [] f e = cc
least_from p at (x ∷ xs) f e = from_cond (p x) at f (least p (suc at) xs) (λ h. let far = least_from p (suc at) xs f h in omega (far, arith)) e

none_earlier : (n : ℕ) (best o : Option ℕ) → ((f : ℕ) → o ≡ Some f → unwrap_or best n ≤ f) → earlier n best o ≡ best
none_earlier n best None h = refl
none_earlier n best (Some f) h = ap (λ b. cond b (Some f) best) (le-ltb f (unwrap_or best n) (h f refl))

first_earlier : (at n : ℕ) (m : Option ℕ) → ((f : ℕ) → m ≡ Some f → suc at ≤ f) → Some at ≡ earlier (at + suc n) m (Some at)
first_earlier at n None h = sym (ap (λ b. cond b (Some at) None) (lt-ltb at (at + suc n) (omega arith)))
first_earlier at n (Some f) h = let far : suc at ≤ f = h f refl in sym (ap (λ b. cond b (Some at) (Some f)) (lt-ltb at f (omega (far, arith))))

four : (b c : Bool) (at n : ℕ) (l m o : Option ℕ) → l ≡ earlier (suc at + n) m o
    → ((f : ℕ) → m ≡ Some f → suc at ≤ f) → ((f : ℕ) → o ≡ Some f → suc at ≤ f)
    → cond (b || c) (Some at) l ≡ earlier (at + suc n) (cond b (Some at) m) (cond c (Some at) o)
four true true at n l m o h hm ho = sym (none_earlier (at + suc n) (Some at) (Some at) (λ f e. let same : at ≡ f = cc in omega (same, arith)))
four true false at n l m o h hm ho = sym (none_earlier (at + suc n) (Some at) o (λ f e. let far : suc at ≤ f = ho f e in omega (far, arith)))
four false true at n l m o h hm ho = first_earlier at n m hm
four false false at n l m o h hm ho = let same : suc at + n ≡ at + suc n = omega arith in h ∙ ap (λ k. earlier k m o) same

pub least_either : (p q : Point → Bool) (at n : ℕ) (xs : List Point) → least (λ e. p e || q e) at (take n xs) ≡ earlier (at + n) (least p at (take n xs)) (least q at xs)
least_either p q at zero xs = sym (none_earlier (at + zero) None (least q at xs) (λ f e. let far = least_from q at xs f e in omega (far, arith)))
least_either p q at (suc n) [] = refl
least_either p q at (suc n) (x ∷ xs) = four (p x) (q x) at n (least (λ e. p e || q e) (suc at) (take n xs)) (least p (suc at) (take n xs)) (least q (suc at) xs) (least_either p q (suc at) n xs) (least_from p (suc at) (take n xs)) (least_from q (suc at) xs)

pub least_alike : (p q : Point → Bool) (at : ℕ) (xs : List Point) → ((e : Point) → p e ≡ q e) → least p at xs ≡ least q at xs
least_alike p q at [] h = refl
least_alike p q at (x ∷ xs) h = ap (λ b. cond b (Some at) (least p (suc at) xs)) (h x) ∙ ap (λ o. cond (q x) (Some at) o) (least_alike p q (suc at) xs h)

-- one key more
pub key_more : (ks : List Key) (k : Key) (n : ℕ) (ps : List Point) → least (holds_back (ks ++ k ∷ [])) 0 (take n ps) ≡ earlier n (least (holds_back ks) 0 (take n ps)) (least (is_open_at k) 0 ps)
key_more ks k n ps =
    let same : 0 + n ≡ n = omega arith in
    least_alike (holds_back (ks ++ k ∷ [])) (λ e. holds_back ks e || is_open_at k e) 0 (take n ps)
    (λ e. list_any-append (λ k. is_open_at k e) ks (k ∷ []) ∙ ap (λ b. holds_back ks e || b) (or-false (is_open_at k e)))
    ∙ least_either (holds_back ks) (is_open_at k) 0 n ps
    ∙ ap (λ m. earlier m (least (holds_back ks) 0 (take n ps)) (least (is_open_at k) 0 ps)) same

none_cond : (b c : Bool) (at : ℕ) (l m o : Option ℕ) → is_none l ≡ (is_none m && is_none o) → is_none (cond (b || c) (Some at) l) ≡ (is_none (cond b (Some at) m) && is_none (cond c (Some at) o))
none_cond true c at l m o h = refl
none_cond false true at l None o h = refl
none_cond false true at l (Some m) o h = refl
none_cond false false at l m o h = h

none_either : (p q : Point → Bool) (at : ℕ) (xs : List Point) → is_none (least (λ e. p e || q e) at xs) ≡ (is_none (least p at xs) && is_none (least q at xs))
none_either p q at [] = refl
none_either p q at (x ∷ xs) = none_cond (p x) (q x) at (least (λ e. p e || q e) (suc at) xs) (least p (suc at) xs) (least q (suc at) xs) (none_either p q (suc at) xs)

-- nothing open at no key
pub none_at : (at : ℕ) (xs : List Point) → least (holds_back []) at xs ≡ None
none_at at [] = refl
none_at at (x ∷ xs) = none_at (suc at) xs

below_none : (at n : ℕ) (o : Option ℕ) → ((f : ℕ) → o ≡ Some f → at + n ≤ f) → true ≡ not (is_below (at + n) o)
below_none at n None h = refl
below_none at n (Some f) h = sym (ap not (le-ltb f (at + n) (h f refl)))

below_cond : (b : Bool) (at n : ℕ) (l o : Option ℕ) → is_none l ≡ not (is_below (suc at + n) o) → is_none (cond b (Some at) l) ≡ not (is_below (at + suc n) (cond b (Some at) o))
below_cond true at n l o h = sym (ap not (lt-ltb at (at + suc n) (omega arith)))
below_cond false at n l o h = let same : suc at + n ≡ at + suc n = omega arith in h ∙ ap (λ m. not (is_below m o)) same

-- none among the first n passes where the least that does is not below n
none_before : (p : Point → Bool) (at n : ℕ) (xs : List Point) → is_none (least p at (take n xs)) ≡ not (is_below (at + n) (least p at xs))
none_before p at zero xs = below_none at zero (least p at xs) (λ f e. let far = least_from p at xs f e in omega (far, arith))
none_before p at (suc n) [] = refl
none_before p at (suc n) (x ∷ xs) = below_cond (p x) at n (least p (suc at) (take n xs)) (least p (suc at) xs) (none_before p (suc at) n xs)

count_one : (b : Bool) (c : ℕ) (r : Bool) → r ≡ nat_eq c 0 → (not b && r) ≡ nat_eq (cond b 1 0 + c) 0
count_one true c r h = let more : suc c ≡ 1 + c = omega arith in sym (ap (λ n. nat_eq n 0) (sym more) ∙ eqb-suc-zero c)
count_one false c r h = let same : c ≡ 0 + c = omega arith in h ∙ ap (λ n. nat_eq n 0) same

-- nothing holds the keys back where none of them has an earlier node at its head
pub ready_count : (first : Key → Option ℕ) (n : ℕ) (ps : List Point) → ((k : Key) → first k ≡ least (is_open_at k) 0 ps) → (ks : List Key)
    → is_none (least (holds_back ks) 0 (take n ps)) ≡ nat_eq (waiting first n ks) 0
ready_count first n ps h [] = ap is_none (none_at 0 (take n ps))
ready_count first n ps h (k ∷ ks) =
    let same : 0 + n ≡ n = omega arith in
    none_either (is_open_at k) (holds_back ks) 0 (take n ps)
    ∙ ap (λ b. b && is_none (least (holds_back ks) 0 (take n ps)))
    (none_before (is_open_at k) 0 n ps ∙ ap (λ m. not (is_below m (least (is_open_at k) 0 ps))) same ∙ ap (λ o. not (is_below n o)) (sym (h k)))
    ∙ count_one (is_below n (first k)) (waiting first n ks) (is_none (least (holds_back ks) 0 (take n ps))) (ready_count first n ps h ks)

pub earlier_takes : (n f : ℕ) (best o l : Option ℕ) → o ≡ Some f → f < unwrap_or best n → l ≡ Some f → l ≡ earlier n best o
earlier_takes n f best o l there lt is = is ∙ sym (ap (λ b. cond b (Some f) best) (lt-ltb f (unwrap_or best n) lt)) ∙ sym (ap (earlier n best) there)

pub earlier_keeps : (n f : ℕ) (best o l : Option ℕ) → o ≡ Some f → unwrap_or best n ≤ f → l ≡ best → l ≡ earlier n best o
earlier_keeps n f best o l there le is = is ∙ sym (ap (λ b. cond b (Some f) best) (le-ltb f (unwrap_or best n) le)) ∙ sym (ap (earlier n best) there)

pub earlier_none : (n : ℕ) (best o l : Option ℕ) → o ≡ None → l ≡ best → l ≡ earlier n best o
earlier_none n best o l none is = is ∙ sym (ap (earlier n best) none)
