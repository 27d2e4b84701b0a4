-- Look-ups in lists and options.
use Rattle.std.proofs.Common.{◌≡◌, ◌≢◌, ◌⊎◌, inl, inr, ℕ, suc, ◌+◌, ◌<◌, ◌≤◌, Bool, true, false, not, cond, nat_lt, List, [], ◌∷◌, length, get_or, take, refl, sym, ap, ◌∙◌, subst, arith, get_or-set_same, get_or-set_other}
use Rattle.std.specs.Prelude.{Option, Some, None, All, position, find, slice_get, slice_set, ◌==◌}
use Rattle.std.specs.List.{prefix_len}
use Rattle.std.proofs.lemmas.Bool.Decides.{nat_tests}
use Rattle.std.proofs.lemmas.List.{length-set, get_or-take, length-take}
use Rattle.std.proofs.lemmas.Option.{slice_get_within, slice_get-get_or, get_or_from_slice_get, slice_get_cases}
use Rattle.lemmas.proofs.Numbers.{not_less, equal_numbers}

pub one_value : {A : Type 0} (x y : A) → ◌≡◌ {A = Option A} (Some x) (Some y) → x ≡ y
one_value x y e = cc

-- ---- lists

set_by : {X : Type 0} (xs : List X) (i j : ℕ) (y x : X) (b : Bool) → (j == i) ≡ b → slice_get (slice_set xs i y) j ≡ Some x → ((j ≡ i) × (x ≡ y)) ⊎ (slice_get xs j ≡ Some x)
set_by xs i j y x true is at =
    let same = equal_numbers j i is in
    let within = slice_get_within (slice_set xs i y) j x at in
    let below : i < length xs = omega (arith, within, same, length-set xs i y) in
    inl (same, sym (get_or_from_slice_get (slice_set xs i y) j x x at) ∙ ap (λ k. get_or (slice_set xs i y) k x) same ∙ get_or-set_same xs i y x below)
set_by xs i j y x false is at =
    let apart : j ≢ i = grind (arith, nat_tests, is) in
    let within = slice_get_within (slice_set xs i y) j x at in
    let below : j < length xs = omega (arith, within, length-set xs i y) in
    inr (slice_get-get_or xs j x below ∙ ap (λ z. Some z) (sym (get_or-set_other xs i j y x apart) ∙ get_or_from_slice_get (slice_set xs i y) j x x at))

-- what is in a list after one element was set
pub found_in_set : {X : Type 0} (xs : List X) (i j : ℕ) (y x : X) → slice_get (slice_set xs i y) j ≡ Some x → ((j ≡ i) × (x ≡ y)) ⊎ (slice_get xs j ≡ Some x)
found_in_set xs i j y x at = set_by xs i j y x (j == i) refl at

pub set_here : {X : Type 0} (xs : List X) (i : ℕ) (y x : X) → slice_get (slice_set xs i y) i ≡ Some x → x ≡ y
set_here xs i y x at =
    let within = slice_get_within (slice_set xs i y) i x at in
    let below : i < length xs = omega (arith, within, length-set xs i y) in
    sym (get_or_from_slice_get (slice_set xs i y) i x x at) ∙ get_or-set_same xs i y x below

-- the list ends there
pub ends_by : {X : Type 0} (xs : List X) (i : ℕ) → slice_get xs i ≡ None → length xs ≤ i
ends_by xs i none = elim ((slice_get_cases xs i).1) [
  | inl h ↦ absurd (let no = sym none ∙ h.2 in cc no)
  | inr h ↦ h.0
]

prefix_whole : {X : Type 0} (p : X → Bool) (xs : List X) → All (λ x. p x ≡ false) xs → prefix_len (λ x. not (p x)) xs ≡ length xs
prefix_whole p [] all = refl
prefix_whole p (x ∷ xs) all =
    let first : p x ≡ false = all 0 x (omega arith) in
    let rest = prefix_whole p xs (λ k d h. all (suc k) d (omega arith)) in
    ap (λ b. cond (not b) (1 + prefix_len (λ y. not (p y)) xs) 0) first ∙ omega (arith, rest)

-- where no element passes, none is found
pub position_none : {X : Type 0} (p : X → Bool) (xs : List X) → All (λ x. p x ≡ false) xs → position p xs ≡ None
position_none p xs all =
    ap (λ n. cond (nat_lt n (length xs)) (Some n) None) (prefix_whole p xs all)
    ∙ ap (λ b. cond b (Some (length xs)) None) (not_less (length xs))

pub find_none : {X : Type 0} (p : X → Bool) (xs : List X) → ((x : X) → p x ≡ false) → find p xs ≡ None
find_none p [] all = refl
find_none p (x ∷ xs) all = ap (λ b. cond b (Some x) (find p xs)) (all x) ∙ find_none p xs all

-- what holds of the elements before a place
pub all_before : {X : Type 0} (P : X → Type 0) (n : ℕ) (xs : List X) → ((i : ℕ) (x : X) → i < n → slice_get xs i ≡ Some x → P x) → All P (take n xs)
all_before P n xs each = λ i d less.
    let long = length-take n xs in
    let within : i < length xs = grind (arith, long, less) in
    let before : i < n = grind (arith, long, less) in
    subst P (sym (get_or-take n xs i d before)) (each i (get_or xs i d) before (slice_get-get_or xs i d within))
