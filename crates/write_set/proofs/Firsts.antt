-- What is inserted into a set key by key.
use Rattle.std.proofs.Common.{◌≡◌, Bool, true, false, not, cond, ◌&&◌, ◌||◌, List, [], ◌∷◌, ◌++◌, filter, append_assoc, append-nil, refl, sym, ap, subst, ◌∙◌}
use Rattle.std.specs.List.{list_any, AllByRecursion, IsDistinct}
use Rattle.std.specs.Prelude.{◌≢◌, AllPairs, fold}
use Rattle.std.proofs.lemmas.Cmp.{eq_by_cmp_equiv}
use Rattle.std.proofs.lemmas.Map.Made.{AllPairs-from_IsDistinct}
use Rattle.std.proofs.lemmas.List.Elements.{filter_agree}
use Rattle.std.proofs.lemmas.List.Folds.{list_any-append}
use Rattle.std.proofs.lemmas.Map.Views.{any-filter_same}
use Rattle.indexmap.specs.IndexSet.{insert_all, insert_key}
use Rattle.rows.specs.declared.change.Key.{Key}
use Rattle.rows.specs.Order.{key_eq}
use Rattle.rows.specs.Total.{key_total, key_eq_same}
use Rattle.rows.specs.WriteSet.{is_among}
use Rattle.rows.proofs.Equal.{key_test, keys-Decide}
use Rattle.rows.proofs.Hashed.{same_tests}
use Rattle.write_set.specs.FirstTouch.{add_key, each_once}

pub tested : (key : Key) (keys : List Key) → list_any (key_test key) keys ≡ is_among keys key
tested key [] = refl
tested key (x ∷ keys) = λ i. same_tests key x i || tested key keys i

one_more : (p : Key → Bool) (a : Bool) (x : Key) (found rest : List Key) → filter p found ≡ rest → filter p (cond a (x ∷ found) found) ≡ cond (a && p x) (x ∷ rest) rest
one_more p true x found rest e = ap (λ r. cond (p x) (x ∷ r) r) e
one_more p false x found rest e = e

filter_twice : (p q : Key → Bool) (keys : List Key) → filter p (filter q keys) ≡ filter (λ k. q k && p k) keys
filter_twice p q [] = refl
filter_twice p q (x ∷ keys) = one_more p (q x) x (filter q keys) (filter (λ k. q k && p k) keys) (filter_twice p q keys)

agree_seen : (seen : List Key) (x k : Key) (b : Bool) → key_eq k x ≡ b → is_among seen x ≡ true → not (is_among seen k) ≡ (not b && not (is_among seen k))
agree_seen seen x k true e i = ap (λ q. not (is_among seen q)) (key_eq_same k x e) ∙ ap not i
agree_seen seen x k false e i = refl

not_either : (a b : Bool) → not (a || (b || false)) ≡ (not b && not a)
not_either true true = refl
not_either true false = refl
not_either false true = refl
not_either false false = refl

agree_new : (seen : List Key) (x k : Key) → not (is_among (seen ++ x ∷ []) k) ≡ (not (key_eq k x) && not (is_among seen k))
agree_new seen x k = ap not (list_any-append (key_eq k) seen (x ∷ [])) ∙ not_either (is_among seen k) (key_eq k x)

step : (b : Bool) (x : Key) (seen keys : List Key) → is_among seen x ≡ b
    → ((s : List Key) → insert_all key_test s keys ≡ s ++ filter (λ k. not (is_among s k)) (each_once keys))
    → insert_all key_test (cond b seen (seen ++ x ∷ [])) keys
    ≡ seen ++ cond (not b) (x ∷ filter (λ k. not (is_among seen k)) (filter (λ k. not (key_eq k x)) (each_once keys))) (filter (λ k. not (is_among seen k)) (filter (λ k. not (key_eq k x)) (each_once keys)))
step true x seen keys e each =
    each seen
    ∙ ap (λ ks. seen ++ ks)
    (filter_agree (λ k. not (is_among seen k)) (λ k. not (key_eq k x) && not (is_among seen k)) (λ k. agree_seen seen x k (key_eq k x) refl e) (each_once keys)
    ∙ sym (filter_twice (λ k. not (is_among seen k)) (λ k. not (key_eq k x)) (each_once keys)))
step false x seen keys e each =
    each (seen ++ x ∷ [])
    ∙ append_assoc seen (x ∷ []) (filter (λ k. not (is_among (seen ++ x ∷ []) k)) (each_once keys))
    ∙ ap (λ ks. seen ++ x ∷ ks)
    (filter_agree (λ k. not (is_among (seen ++ x ∷ []) k)) (λ k. not (key_eq k x) && not (is_among seen k)) (agree_new seen x) (each_once keys)
    ∙ sym (filter_twice (λ k. not (is_among seen k)) (λ k. not (key_eq k x)) (each_once keys)))

-- keys that are inserted one after another are in the order of their first places
pub inserted_once : (keys seen : List Key) → insert_all key_test seen keys ≡ seen ++ filter (λ k. not (is_among seen k)) (each_once keys)
inserted_once [] seen = sym (append-nil seen)
inserted_once (x ∷ keys) seen =
    ap (λ b. insert_all key_test (cond b seen (seen ++ x ∷ [])) keys) (tested x seen)
    ∙ step (is_among seen x) x seen keys refl (λ s. inserted_once keys s)

none_left : (keys : List Key) → filter (λ k. not (is_among [] k)) keys ≡ keys
none_left [] = refl
none_left (x ∷ keys) = ap (λ ks. x ∷ ks) (none_left keys)

pub all_inserted : (keys : List Key) → insert_all key_test [] keys ≡ each_once keys
all_inserted keys = inserted_once keys [] ∙ none_left (each_once keys)

-- ... also where they are compared one by one
one_more_way : (b c : Bool) (x : Key) (keys : List Key) → b ≡ c → cond b keys (keys ++ x ∷ []) ≡ cond c keys (keys ++ x ∷ [])
one_more_way b c x keys e = ap (λ a. cond a keys (keys ++ x ∷ [])) e

both_ways : insert_key key_test ≡ add_key
both_ways = λ i keys x. one_more_way (list_any (key_test x) keys) (is_among keys x) x keys (tested x keys) i

pub all_added : (keys : List Key) → fold add_key [] keys ≡ each_once keys
all_added keys = sym (ap (λ f. fold f [] keys) both_ways) ∙ all_inserted keys

-- ---- the members

or_not : (a b : Bool) → (a || (not a && b)) ≡ (a || b)
or_not true b = refl
or_not false b = refl

-- each of them is a member, and no other
pub same_members : (keys : List Key) (k : Key) → is_among (each_once keys) k ≡ is_among keys k
same_members [] k = refl
same_members (x ∷ keys) k =
    ap (λ b. key_eq k x || b)
    (any-filter_same (key_eq k) (λ q. not (key_eq q x)) (not (key_eq k x)) (λ q e. ap (λ r. not (key_eq r x)) (sym (key_eq_same k q e))) (each_once keys)
    ∙ ap (λ b. not (key_eq k x) && b) (same_members keys k))
    ∙ or_not (key_eq k x) (is_among keys k)

-- ---- each occurs once

passing : (P : Key → Type 0) (b : Bool) (x : Key) (rest : List Key) → P x → AllByRecursion P rest → AllByRecursion P (cond b (x ∷ rest) rest)
passing P true x rest h g = (h, g)
passing P false x rest h g = g

all_passing : (P : Key → Type 0) (p : Key → Bool) (keys : List Key) → AllByRecursion P keys → AllByRecursion P (filter p keys)
all_passing P p [] h = tt
all_passing P p (x ∷ keys) h = passing P (p x) x (filter p keys) h.0 (all_passing P p keys h.1)

apart_or_not : (b : Bool) (x : Key) (rest : List Key) → AllByRecursion (λ y. key_test x y ≡ false) rest → IsDistinct key_test rest → IsDistinct key_test (cond b (x ∷ rest) rest)
unfolding IsDistinct
apart_or_not true x rest h g = (h, g)
apart_or_not false x rest h g = g

apart_passing : (p : Key → Bool) (keys : List Key) → IsDistinct key_test keys → IsDistinct key_test (filter p keys)
unfolding IsDistinct
apart_passing p [] h = tt
apart_passing p (x ∷ keys) h = apart_or_not (p x) x (filter p keys) (all_passing (λ y. key_test x y ≡ false) p keys h.0) (apart_passing p keys h.1)

others : (b : Bool) (x y : Key) (rest : List Key) → key_eq y x ≡ b → AllByRecursion (λ z. key_test x z ≡ false) rest → AllByRecursion (λ z. key_test x z ≡ false) (cond (not b) (y ∷ rest) rest)
others true x y rest e h = h
others false x y rest e h = (same_tests x y ∙ (eq_by_cmp_equiv key_total).symm x y ∙ e, h)

all_others : (x : Key) (keys : List Key) → AllByRecursion (λ z. key_test x z ≡ false) (filter (λ k. not (key_eq k x)) keys)
all_others x [] = tt
all_others x (y ∷ keys) = others (key_eq y x) x y (filter (λ k. not (key_eq k x)) keys) refl (all_others x keys)

distinct_once : (keys : List Key) → IsDistinct key_test (each_once keys)
unfolding IsDistinct
distinct_once [] = tt
distinct_once (x ∷ keys) = (all_others x (each_once keys), apart_passing (λ k. not (key_eq k x)) (each_once keys) (distinct_once keys))

-- ---- what each_once gives for a list

pub once_members : (list keys : List Key) → list ≡ each_once keys → (k : Key) → is_among list k ≡ is_among keys k
once_members list keys is k = ap (λ ks. is_among ks k) is ∙ same_members keys k

pub once_pairs : (list keys : List Key) → list ≡ each_once keys → AllPairs (λ a b. a ≢ b) list
once_pairs list keys is = subst (λ (ks : List Key). AllPairs (λ a b. a ≢ b) ks) (sym is) (AllPairs-from_IsDistinct keys-Decide (each_once keys) (distinct_once keys))
