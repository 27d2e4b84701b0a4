-- Which transactions conflict, and at which keys: their order matters. What the theories of histories know of it are its two laws.
use Rattle.std.specs.Prelude.{◌≡◌, Bool, true, false, cond, ◌&&◌, ◌||◌, List, [], ◌∷◌}
use Rattle.std.proofs.Common.{inl, inr, refl, sym, ap, ◌∙◌, true≢false}
use Rattle.std.proofs.lemmas.Cmp.{eq_by_cmp_equiv}
use Rattle.std.proofs.lemmas.Bool.{or_cases, or_left, or_right, and_from, and_parts}
use Rattle.std.specs.List.{filter, list_any}
use Rattle.rows.specs.declared.change.Key.{Key}
use Rattle.rows.specs.declared.change.Transaction.{Transaction}
use Rattle.rows.specs.declared.schema.Table.{Table}
use Rattle.rows.specs.Order.{key_eq}
use Rattle.rows.specs.Total.{key_total, key_eq_same, key_eq_self}
use Rattle.rows.specs.WriteSet.{write_set, is_among, touches, shares_key}

-- ---- sharing a key goes both ways

or_four : (a b c d : Bool) → ((a || b) || (c || d)) ≡ ((a || c) || (b || d))
or_four true b c d = refl
or_four false true true d = refl
or_four false true false d = refl
or_four false false c d = refl

any_or : (p q : Key → Bool) (xs : List Key) → list_any (λ x. p x || q x) xs ≡ (list_any p xs || list_any q xs)
any_or p q [] = refl
any_or p q (x ∷ xs) = ap (λ b. (p x || q x) || b) (any_or p q xs) ∙ or_four (p x) (q x) (list_any p xs) (list_any q xs)

any_false : (xs : List Key) → list_any (λ x. false) xs ≡ false
any_false [] = refl
any_false (x ∷ xs) = any_false xs

swapped : (f : Key → Key → Bool) (a b : List Key) → list_any (λ x. list_any (λ y. f x y) b) a ≡ list_any (λ y. list_any (λ x. f x y) a) b
swapped f [] b = sym (any_false b)
swapped f (x ∷ a) b = ap (λ c. list_any (λ y. f x y) b || c) (swapped f a b) ∙ sym (any_or (λ y. f x y) (λ y. list_any (λ x. f x y) a) b)

pub shares_both_ways : (schema : List Table) (a b : Transaction) → shares_key schema a b ≡ shares_key schema b a
shares_both_ways schema a b =
    swapped key_eq (write_set schema a) (write_set schema b)
    ∙ (λ i. list_any (λ y. list_any (λ x. (eq_by_cmp_equiv key_total).symm x y i) (write_set schema a)) (write_set schema b))

-- ---- keys that pass a test

pub some_key : (p : Key → Bool) (keys : List Key) → list_any p keys ≡ true → (k : Key) × (is_among keys k ≡ true) × (p k ≡ true)
some_key p [] h = absurd (true≢false (sym h))
some_key p (x ∷ keys) h = elim (or_cases (p x) (list_any p keys) h) [
  | inl here ↦ (x, or_left (key_eq x x) (is_among keys x) (key_eq_self x), here)
  | inr later ↦ let k = some_key p keys later in (k.0, or_right (key_eq k.0 x) (is_among keys k.0) k.1, k.2)
]

pub key_passes : (p : Key → Bool) (keys : List Key) (k : Key) → is_among keys k ≡ true → p k ≡ true → list_any p keys ≡ true
key_passes p [] k i h = absurd (true≢false (sym i))
key_passes p (x ∷ keys) k i h = elim (or_cases (key_eq k x) (is_among keys k) i) [
  | inl here ↦ or_left (p x) (list_any p keys) (ap p (sym (key_eq_same k x here)) ∙ h)
  | inr later ↦ or_right (p x) (list_any p keys) (key_passes p keys k later h)
]

and_none : (b : Bool) → false ≡ (b && false)
and_none true = refl
and_none false = refl

among_by : (p : Key → Bool) (x : Key) (F : List Key) (k : Key) (r b e : Bool) → p x ≡ b → key_eq k x ≡ e → is_among F k ≡ (p k && r)
    → is_among (cond b (x ∷ F) F) k ≡ (p k && (e || r))
among_by p x F k r true true t e h = ap (λ c. c || is_among F k) e ∙ sym (ap (λ c. c && true) (ap p (key_eq_same k x e) ∙ t))
among_by p x F k r true false t e h = ap (λ c. c || is_among F k) e ∙ h
among_by p x F k r false true t e h =
    let fails : p k ≡ false = ap p (key_eq_same k x e) ∙ t in
    h ∙ ap (λ c. c && r) fails ∙ sym (ap (λ c. c && true) fails)
among_by p x F k r false false t e h = h

among_filter : (p : Key → Bool) (keys : List Key) (k : Key) → is_among (filter p keys) k ≡ (p k && is_among keys k)
among_filter p [] k = and_none (p k)
among_filter p (x ∷ keys) k = among_by p x (filter p keys) k (is_among keys k) (p x) (key_eq k x) refl refl (among_filter p keys k)

-- ---- conflicts

-- The two may not change places. Shut: outside of this file only the laws below tell what it is.
pub conflicts : List Table → Transaction → Transaction → Bool
conflicts schema a b = shares_key schema a b

-- it goes both ways
pub conflicts_both_ways : (schema : List Table) (a b : Transaction) → conflicts schema a b ≡ conflicts schema b a
unfolding conflicts
conflicts_both_ways schema a b = shares_both_ways schema a b

-- those that share a key conflict
pub sharing_is_conflict : (schema : List Table) (a b : Transaction) → shares_key schema a b ≡ true → conflicts schema a b ≡ true
unfolding conflicts
sharing_is_conflict schema a b shares = shares

-- ---- at which keys

-- the keys of u at which it conflicts with t, in the order of u's keys; shut as well
pub conflict_keys : List Table → Transaction → Transaction → List Key
conflict_keys schema t u = filter (touches schema t) (write_set schema u)

abbrev pub conflicts_at : List Table → Transaction → Transaction → Key → Bool
conflicts_at schema t u key = is_among (conflict_keys schema t u) key

-- two conflict at some key
pub conflict_has_key : (schema : List Table) (t u : Transaction) → conflicts schema t u ≡ true → (key : Key) × (conflicts_at schema t u key ≡ true)
unfolding conflicts conflict_keys
conflict_has_key schema t u h =
    let k = some_key (touches schema u) (write_set schema t) h in
    (k.0, among_filter (touches schema t) (write_set schema u) k.0 ∙ and_from (touches schema t k.0) (touches schema u k.0) k.1 k.2)

-- and if there is one, they conflict
pub key_is_conflict : (schema : List Table) (t u : Transaction) (key : Key) → conflicts_at schema t u key ≡ true → conflicts schema t u ≡ true
unfolding conflicts conflict_keys
key_is_conflict schema t u key h =
    let both = and_parts (touches schema t key) (touches schema u key) (sym (among_filter (touches schema t) (write_set schema u) key) ∙ h) in
    key_passes (touches schema u) (write_set schema t) key both.0 both.1

-- ---- for those that decide it

-- No others do. Cited where code decides the relation, and where an example is computed: what cites it changes once more conflicts.
pub conflict_is_sharing : (schema : List Table) (a b : Transaction) → conflicts schema a b ≡ shares_key schema a b
unfolding conflicts
conflict_is_sharing schema a b = refl

-- They conflict at the keys that both touch, and at no others.
pub conflict_at_is_sharing : (schema : List Table) (t u : Transaction) (key : Key) → conflicts_at schema t u key ≡ (touches schema t key && touches schema u key)
unfolding conflict_keys
conflict_at_is_sharing schema t u key = among_filter (touches schema t) (write_set schema u) key

and_true : (b : Bool) → (b && true) ≡ b
and_true true = refl
and_true false = refl

pub conflict_at_touched : (schema : List Table) (t u : Transaction) (key : Key) → touches schema u key ≡ true → conflicts_at schema t u key ≡ touches schema t key
conflict_at_touched schema t u key h = conflict_at_is_sharing schema t u key ∙ ap (λ c. touches schema t key && c) h ∙ and_true (touches schema t key)

pub conflict_at_both : (schema : List Table) (t u : Transaction) (key : Key) → conflicts_at schema t u key ≡ true → (touches schema t key ≡ true) × (touches schema u key ≡ true)
conflict_at_both schema t u key h = and_parts (touches schema t key) (touches schema u key) (sym (conflict_at_is_sharing schema t u key) ∙ h)
