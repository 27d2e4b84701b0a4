-- Places of lists, and tests of all and of any of their elements.
use Rattle.std.proofs.Common.{Bool, List, None, Some, [], ap, arith, cond, drop, false, inl, inr, length, map, not, refl, subst, suc, sym, take, true, zero, ℕ, ◌++◌, ◌+◌, ◌<◌, ◌∙◌, ◌∷◌, ◌≡◌, ◌≢◌, ◌≤◌, ◌⊎◌}
use Rattle.lemmas.proofs.Options.{none_some}
use Rattle.std.proofs.Math.ListN.{get_or-append}
use Rattle.std.proofs.lemmas.Bool.{and_parts, ltb-false, not-true, or_cases}
use Rattle.std.proofs.lemmas.List.Sums.{prefix_len_passes}
use Rattle.std.proofs.lemmas.Option.{get_or_from_slice_get, same_Some, slice_get-get_or, slice_get_within}
use Rattle.std.specs.List.{AllByRecursion, filter, list_all, list_any, position_or_len, range_with_len}
use Rattle.std.specs.Prelude.{find, nat_lt, position, slice_get, slice_set}

pub get_append_left : {A : Type 0} (xs ys : List A) (i : ℕ) (x : A) → slice_get xs i ≡ Some x → slice_get (xs ++ ys) i ≡ Some x
get_append_left [] ys i x e = none_some x e
get_append_left (y ∷ xs) ys zero x e = e
get_append_left (y ∷ xs) ys (suc i) x e = get_append_left xs ys i x e

pub get_push : {A : Type 0} (xs : List A) (y : A) → slice_get (xs ++ y ∷ []) (length xs) ≡ Some y
get_push [] y = refl
get_push (x ∷ xs) y = get_push xs y

pub get_map_cases : {A B : Type 0} (f : A → B) (xs : List A) (i : ℕ) (y : B) → slice_get (map f xs) i ≡ Some y → (x : A) × (slice_get xs i ≡ Some x) × (f x ≡ y)
get_map_cases f [] i y e = none_some y e
get_map_cases f (x ∷ xs) zero y e = (x, refl, same_Some (f x) y e)
get_map_cases f (x ∷ xs) (suc i) y e = get_map_cases f xs i y e

pub all_append : {A : Type 0} (P : A → Type 0) (xs ys : List A) → AllByRecursion P xs → AllByRecursion P ys → AllByRecursion P (xs ++ ys)
all_append P [] ys h g = g
all_append P (x ∷ xs) ys h g = (h.0, all_append P xs ys h.1 g)

pub all_push : {A : Type 0} (P : A → Type 0) (xs : List A) (y : A) → AllByRecursion P xs → P y → AllByRecursion P (xs ++ y ∷ [])
all_push P [] y h g = (g, tt)
all_push P (x ∷ xs) y h g = (h.0, all_push P xs y h.1 g)

pub any_at : {A : Type 0} (p : A → Bool) (xs : List A) → list_any p xs ≡ true → (i : ℕ) × (x : A) × (slice_get xs i ≡ Some x) × (p x ≡ true)
any_at p [] e = cc
any_at p (x ∷ xs) e = elim (or_cases (p x) (list_any p xs) e) [
  | inl here ↦ (zero, x, refl, here)
  | inr later ↦ let r = any_at p xs later in (suc r.0, r.1, r.2, r.3)
]

pub get_push_cases : {A : Type 0} (xs : List A) (y : A) (i : ℕ) (x : A) → slice_get (xs ++ y ∷ []) i ≡ Some x → (slice_get xs i ≡ Some x) ⊎ ((i ≡ length xs) × (y ≡ x))
get_push_cases [] y zero x e = inr (refl, same_Some y x e)
get_push_cases [] y (suc i) x e = none_some x e
get_push_cases (z ∷ xs) y zero x e = inl e
get_push_cases (z ∷ xs) y (suc i) x e = elim (get_push_cases xs y i x e) [ inl p ↦ inl p | inr q ↦ inr (ap suc q.0, q.1) ]

apart_zero : (n : ℕ) → suc n ≢ zero
apart_zero n e = omega arith

suc_apart : (m n : ℕ) → (m ≢ n) → suc m ≢ suc n
suc_apart m n h e = h (omega arith)

zero_apart : (n : ℕ) → zero ≢ suc n
zero_apart n e = omega arith

pub get_set_cases : {A : Type 0} (xs : List A) (c : ℕ) (v : A) (d : ℕ) (x : A) → slice_get (slice_set xs c v) d ≡ Some x → ((d ≡ c) × (v ≡ x)) ⊎ ((d ≢ c) × (slice_get xs d ≡ Some x))
get_set_cases [] c v d x e = none_some x e
get_set_cases (y ∷ xs) zero v zero x e = inl (refl, same_Some v x e)
get_set_cases (y ∷ xs) zero v (suc d) x e = inr (apart_zero d, e)
get_set_cases (y ∷ xs) (suc c) v zero x e = inr (zero_apart c, e)
get_set_cases (y ∷ xs) (suc c) v (suc d) x e = elim (get_set_cases xs c v d x e) [ inl p ↦ inl (ap suc p.0, p.1) | inr q ↦ inr (suc_apart d c q.0, q.1) ]

pub get_set_from : {A : Type 0} (xs : List A) (c : ℕ) (v : A) (d : ℕ) (x : A) → slice_get xs d ≡ Some x → (slice_get (slice_set xs c v) d ≡ Some x) ⊎ ((d ≡ c) × (slice_get (slice_set xs c v) d ≡ Some v))
get_set_from [] c v d x e = none_some x e
get_set_from (y ∷ xs) zero v zero x e = inr (refl, refl)
get_set_from (y ∷ xs) zero v (suc d) x e = inl e
get_set_from (y ∷ xs) (suc c) v zero x e = inl e
get_set_from (y ∷ xs) (suc c) v (suc d) x e = elim (get_set_from xs c v d x e) [ inl p ↦ inl p | inr q ↦ inr (ap suc q.0, q.1) ]

pub get_map : {A B : Type 0} (f : A → B) (xs : List A) (i : ℕ) (x : A) → slice_get xs i ≡ Some x → slice_get (map f xs) i ≡ Some (f x)
get_map f [] i x e = none_some x e
get_map f (y ∷ xs) zero x e = ap (λ z. Some (f z)) (same_Some y x e)
get_map f (y ∷ xs) (suc i) x e = get_map f xs i x e

pub get_drop : {A : Type 0} (k : ℕ) (xs : List A) (i : ℕ) → slice_get (drop k xs) i ≡ slice_get xs (k + i)
get_drop zero [] i = refl
get_drop (suc k) [] i = refl
get_drop zero (x ∷ xs) i = ap (slice_get (x ∷ xs)) (omega arith)
get_drop (suc k) (x ∷ xs) i =
    let e : suc k + i ≡ suc (k + i) = omega arith in
    get_drop k xs i ∙ sym (ap (slice_get (x ∷ xs)) e)

pub get_take : {A : Type 0} (xs : List A) (n i : ℕ) (x : A) → slice_get xs i ≡ Some x → i < n → slice_get (take n xs) i ≡ Some x
get_take [] n i x e h = none_some x e
get_take (y ∷ xs) zero i x e h = absurd (omega arith)
get_take (y ∷ xs) (suc n) zero x e h = e
get_take (y ∷ xs) (suc n) (suc i) x e h = get_take xs n i x e (omega arith)

pub all_drop : {A : Type 0} (P : A → Type 0) (k : ℕ) (xs : List A) → AllByRecursion P xs → AllByRecursion P (drop k xs)
all_drop P zero xs h = h
all_drop P (suc k) [] h = tt
all_drop P (suc k) (x ∷ xs) h = all_drop P k xs h.1

pub all_at : {A : Type 0} (P : A → Type 0) (xs : List A) (i : ℕ) (x : A) → AllByRecursion P xs → slice_get xs i ≡ Some x → P x
all_at P [] i x h e = none_some x e
all_at P (y ∷ xs) zero x h e = subst P (same_Some y x e) h.0
all_at P (y ∷ xs) (suc i) x h e = all_at P xs i x h.1 e

pub all_from : {A : Type 0} (P : A → Type 0) (xs : List A) → ((i : ℕ) (x : A) → slice_get xs i ≡ Some x → P x) → AllByRecursion P xs
all_from P [] h = tt
all_from P (x ∷ xs) h = (h zero x refl, all_from P xs (λ i y e. h (suc i) y e))

same_head : {A : Type 0} (x y : A) (xs ys : List A) → x ∷ xs ≡ y ∷ ys → x ≡ y
same_head x y xs ys e = cc

same_tail : {A : Type 0} (x y : A) (xs ys : List A) → x ∷ xs ≡ y ∷ ys → xs ≡ ys
same_tail x y xs ys e = cc

located_by : {A : Type 0} (p : A → Bool) (y : A) (es rest : List A) (e : A) (b : Bool) → p y ≡ b → (xs : List A)
    → ((zs : List A) → filter p es ≡ zs ++ e ∷ rest → (k : ℕ) × (slice_get es k ≡ Some e) × (filter p (take k es) ≡ zs))
    → cond b (y ∷ filter p es) (filter p es) ≡ xs ++ e ∷ rest → (k : ℕ) × (slice_get (y ∷ es) k ≡ Some e) × (filter p (take k (y ∷ es)) ≡ xs)
located_by p y es rest e true t [] h g = (0, ap Some (same_head y e (filter p es) rest g), refl)
located_by p y es rest e true t (z ∷ zs) h g =
    let r = h zs (same_tail y z (filter p es) (zs ++ e ∷ rest) g) in
    (suc r.0, r.1, (λ i. cond (t i) (y ∷ filter p (take r.0 es)) (filter p (take r.0 es))) ∙ (λ i. same_head y z (filter p es) (zs ++ e ∷ rest) g i ∷ r.2 i))
located_by p y es rest e false t xs h g =
    let r = h xs g in
    (suc r.0, r.1, (λ i. cond (t i) (y ∷ filter p (take r.0 es)) (filter p (take r.0 es))) ∙ r.2)

pub located : {A : Type 0} (p : A → Bool) (es xs rest : List A) (e : A) → filter p es ≡ xs ++ e ∷ rest → (k : ℕ) × (slice_get es k ≡ Some e) × (filter p (take k es) ≡ xs)
located p [] [] rest e h = cc
located p [] (x ∷ xs) rest e h = cc
located p (y ∷ es) xs rest e h = located_by p y es rest e (p y) refl xs (λ zs g. located p es zs rest e g) h

found_by : {A : Type 0} (p : A → Bool) (y : A) (xs : List A) (x : A) (b : Bool) → p y ≡ b → (find p xs ≡ Some x → p x ≡ true) → cond b (Some y) (find p xs) ≡ Some x → p x ≡ true
found_by p y xs x true t h e = ap p (sym (same_Some y x e)) ∙ t
found_by p y xs x false t h e = h e

pub found_passes : {A : Type 0} (p : A → Bool) (xs : List A) (x : A) → find p xs ≡ Some x → p x ≡ true
found_passes p [] x e = none_some x e
found_passes p (y ∷ xs) x e = found_by p y xs x (p y) refl (found_passes p xs x) e

none_by : {A : Type 0} (p : A → Bool) (y : A) (xs : List A) (b : Bool) → p y ≡ b → (find p xs ≡ None → AllByRecursion (λ x. p x ≡ false) xs) → cond b (Some y) (find p xs) ≡ None → (p y ≡ false) × AllByRecursion (λ x. p x ≡ false) xs
none_by p y xs true t h e = none_some y (sym e)
none_by p y xs false t h e = (t, h e)

pub none_passes : {A : Type 0} (p : A → Bool) (xs : List A) → find p xs ≡ None → AllByRecursion (λ x. p x ≡ false) xs
none_passes p [] e = tt
none_passes p (y ∷ xs) e = none_by p y xs (p y) refl (none_passes p xs) e

no_some : {A : Type 0} (b : Bool) (x : A) → cond b (Some x) None ≡ None → b ≡ false
no_some true x e = none_some x (sym e)
no_some false x e = refl

pub position_none : {A : Type 0} (p : A → Bool) (xs : List A) → position p xs ≡ None → (i : ℕ) (x : A) → slice_get xs i ≡ Some x → p x ≡ false
position_none p xs e i x h =
    let below : i < length xs = slice_get_within xs i x h in
    let far : length xs ≤ position_or_len p xs = ltb-false (position_or_len p xs) (length xs) (no_some (nat_lt (position_or_len p xs) (length xs)) (position_or_len p xs) e) in
    not-true (p x) (ap (λ z. not (p z)) (sym (get_or_from_slice_get xs i x x h)) ∙ prefix_len_passes (λ y. not (p y)) xs i x (omega arith))

pub taken : {A : Type 0} (xs : List A) (n i : ℕ) (x : A) → slice_get (take n xs) i ≡ Some x → (slice_get xs i ≡ Some x) × (i < n)
taken [] zero i x e = none_some x e
taken [] (suc n) i x e = none_some x e
taken (y ∷ xs) zero i x e = none_some x e
taken (y ∷ xs) (suc n) zero x e = (e, omega arith)
taken (y ∷ xs) (suc n) (suc i) x e = let r = taken xs n i x e in (r.0, omega arith)

pub get_range : (a n i : ℕ) → i < n → slice_get (range_with_len a n) i ≡ Some (a + i)
get_range a zero i l = absurd (omega arith)
get_range a (suc n) zero l = ap Some (omega arith)
get_range a (suc n) (suc i) l =
    let e : (a + 1) + i ≡ a + suc i = omega arith in
    get_range (a + 1) n i (omega arith) ∙ ap Some e

pub range_above : (a n i m : ℕ) → slice_get (range_with_len a n) i ≡ Some m → (a ≤ m) × (m < a + n)
range_above a zero i m e = none_some m e
range_above a (suc n) zero m e = let h : a ≡ m = same_Some a m e in (omega arith, omega arith)
range_above a (suc n) (suc i) m e = let r = range_above (a + 1) n i m e in (omega arith, omega arith)

filter_by : {A : Type 0} (p : A → Bool) (x : A) (F : List A) (b : Bool) (y : A) (i : ℕ) → p x ≡ b → slice_get (cond b (x ∷ F) F) i ≡ Some y → ((x ≡ y) × (p x ≡ true)) ⊎ ((j : ℕ) × (slice_get F j ≡ Some y))
filter_by p x F true y zero t e = inl (same_Some x y e, t)
filter_by p x F true y (suc i) t e = inr (i, e)
filter_by p x F false y i t e = inr (i, e)

pub filtered : {A : Type 0} (p : A → Bool) (xs : List A) (i : ℕ) (y : A) → slice_get (filter p xs) i ≡ Some y → (p y ≡ true) × (j : ℕ) × (slice_get xs j ≡ Some y)
filtered p [] i y e = none_some y e
filtered p (x ∷ xs) i y e = elim (filter_by p x (filter p xs) (p x) y i refl e) [
  | inl here ↦ (ap p (sym here.0) ∙ here.1, zero, ap Some here.0)
  | inr later ↦ let r = filtered p xs later.0 y later.1 in (r.0, suc r.1, r.2)
]

filters_by : {A : Type 0} (x : A) (F : List A) (y : A) (b : Bool) → ((j : ℕ) × (slice_get F j ≡ Some y)) → (j : ℕ) × (slice_get (cond b (x ∷ F) F) j ≡ Some y)
filters_by x F y true r = (suc r.0, r.1)
filters_by x F y false r = r

pub left_by_filter : {A : Type 0} (p : A → Bool) (xs : List A) (i : ℕ) (y : A) → slice_get xs i ≡ Some y → p y ≡ true → (j : ℕ) × (slice_get (filter p xs) j ≡ Some y)
left_by_filter p [] i y e t = none_some y e
left_by_filter p (x ∷ xs) zero y e t =
    let is_y : x ≡ y = same_Some x y e in
    (zero, ap (λ b. slice_get (cond b (x ∷ filter p xs) (filter p xs)) zero) (ap p is_y ∙ t) ∙ ap Some is_y)
left_by_filter p (x ∷ xs) (suc i) y e t = filters_by x (filter p xs) y (p x) (left_by_filter p xs i y e t)

pub get_append_within : {X : Type 0} (xs ys : List X) (i : ℕ) (x : X) → i < length xs → slice_get (xs ++ ys) i ≡ Some x → slice_get xs i ≡ Some x
get_append_within xs ys i x within at =
    slice_get-get_or xs i x within ∙ ap (λ y. Some y) (sym (get_or-append xs ys x i within) ∙ get_or_from_slice_get (xs ++ ys) i x x at)

pub set_there : {A : Type 0} (xs : List A) (i : ℕ) (x v : A) → slice_get xs i ≡ Some x → slice_get (slice_set xs i v) i ≡ Some v
set_there [] i x v e = none_some x e
set_there (y ∷ xs) zero x v e = refl
set_there (y ∷ xs) (suc i) x v e = set_there xs i x v e

pub all_true : {A : Type 0} (p : A → Bool) (xs : List A) (i : ℕ) (x : A) → list_all p xs ≡ true → slice_get xs i ≡ Some x → p x ≡ true
all_true p [] i x h at = none_some x at
all_true p (y ∷ ys) zero x h at = ap p (same_Some x y (sym at)) ∙ (and_parts (p y) (list_all p ys) h).0
all_true p (y ∷ ys) (suc i) x h at = all_true p ys i x (and_parts (p y) (list_all p ys) h).1 at

pub all_true_append : (p : ℕ → Bool) (xs ys : List ℕ) → list_all p xs ≡ true → list_all p ys ≡ true → list_all p (xs ++ ys) ≡ true
all_true_append p [] ys a b = b
all_true_append p (x ∷ xs) ys a b = let w = and_parts (p x) (list_all p xs) a in rw w.0 (all_true_append p xs ys w.1 b)

pub same_parts : (c d : ℕ) (xs ys : List ℕ) → c ∷ xs ≡ d ∷ ys → (c ≡ d) × (xs ≡ ys)
same_parts c d xs ys e = (cc, cc)

pub same_behind : (p a b : List ℕ) → p ++ a ≡ p ++ b → a ≡ b
same_behind [] a b e = e
same_behind (x ∷ p) a b e = same_behind p a b (ap (λ (l : List ℕ). drop 1 l) e)
