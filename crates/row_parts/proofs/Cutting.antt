-- Lists that are cut into ranges, and ranges one after another.
use Rattle.std.proofs.Common.{◌≡◌, ℕ, zero, suc, ◌<◌, ◌≤◌, List, [], ◌++◌, length, drop, Option, Some, Result, Ok, map, inl, inr, ap, sym, ◌∙◌, subst, append_assoc, arith}
use Rattle.std.specs.Prelude.{slice_get, IsPermutation}
use Rattle.std.proofs.lemmas.List.{take-append-drop, length-map}
use Rattle.std.proofs.lemmas.Option.{slice_get_cases, slice_get-map}
use Rattle.std.proofs.lemmas.List.Sorted.{IsPermutation-refl, IsPermutation-append, IsPermutation-append_comm, IsPermutation-trans}
use Rattle.row_parts.specs.Listing.{joined_before}
use Rattle.row_parts.specs.Ranges.{Shown, IsRange, shown_in, cut_from, left_of, range_of, range_in, ranges_at, shown_at}
use Rattle.row_parts.specs.declared.listing.Listed.{Listed}
use Rattle.std.specs.declared.alloc.AllocError.{AllocError}
use Rattle.std.specs.Option.{option_map}

-- ---- cut

-- the ranges of a list up to a cut, and what is left behind it
fronts : (list : List Shown) (cuts : List ℕ) → joined_before (range_of list cuts) 3 ++ left_of list cuts 3 ≡ list
fronts list cuts =
    let l1 = left_of list cuts 1 in
    let l2 = left_of list cuts 2 in
    let cut = λ (l : List Shown) (n : ℕ). cut_from l (slice_get cuts n) in
    let a = range_of list cuts 0 in
    let b = range_of list cuts 1 in
    let c = range_of list cuts 2 in
    append_assoc (a ++ b) c (left_of list cuts 3)
    ∙ ap (λ (x : List Shown). (a ++ b) ++ x) (take-append-drop (cut l2 2) l2)
    ∙ append_assoc a b l2
    ∙ ap (λ (x : List Shown). a ++ x) (take-append-drop (cut l1 1) l1)
    ∙ take-append-drop (cut list 0) list

-- ---- lists of lists

abbrev J : (ℕ → List Shown) → ℕ → List Shown
J = joined_before {A = Shown}

swap_middle : (a b c d : List Shown) → IsPermutation ((a ++ b) ++ (c ++ d)) ((a ++ c) ++ (b ++ d))
swap_middle a b c d =
    subst (λ x. IsPermutation x ((a ++ c) ++ (b ++ d))) (sym (append_assoc a b (c ++ d)))
    (subst (λ y. IsPermutation (a ++ (b ++ (c ++ d))) y) (sym (append_assoc a c (b ++ d)))
    (IsPermutation-append a a (b ++ (c ++ d)) (c ++ (b ++ d)) (IsPermutation-refl a)
    (subst (λ x. IsPermutation x (c ++ (b ++ d))) (append_assoc b c d)
    (subst (λ y. IsPermutation ((b ++ c) ++ d) y) (append_assoc c b d)
    (IsPermutation-append (b ++ c) (c ++ b) d d (IsPermutation-append_comm b c) (IsPermutation-refl d))))))

interleaved : (f g : ℕ → List Shown) (n : ℕ) → IsPermutation (J f n ++ J g n) (J (λ i. f i ++ g i) n)
interleaved f g zero = IsPermutation-refl []
interleaved f g (suc n) =
    IsPermutation-trans ((J f n ++ f n) ++ (J g n ++ g n)) ((J f n ++ J g n) ++ (f n ++ g n)) (J (λ i. f i ++ g i) (suc n)) (swap_middle (J f n) (f n) (J g n) (g n)) (IsPermutation-append (J f n ++ J g n) (J (λ i. f i ++ g i) n) (f n ++ g n) (f n ++ g n) (interleaved f g n) (IsPermutation-refl (f n ++ g n)))

-- lists one after another have what ranges of all of them have, one after another
crossed : (f : ℕ → List Shown) (g : ℕ → ℕ → List Shown) (n : ℕ) → ((i : ℕ) → J (λ r. g r i) 4 ≡ f i) → IsPermutation (J f n) (J (λ r. J (g r) n) 4)
crossed f g zero parts = IsPermutation-refl []
crossed f g (suc n) parts =
    IsPermutation-trans (J f n ++ f n) (J (λ r. J (g r) n) 4 ++ J (λ r. g r n) 4) (J (λ r. J (g r) (suc n)) 4)
    (subst (λ x. IsPermutation (J f n ++ x) (J (λ r. J (g r) n) 4 ++ J (λ r. g r n) 4)) (parts n)
    (IsPermutation-append (J f n) (J (λ r. J (g r) n) 4) (J (λ r. g r n) 4) (J (λ r. g r n) 4) (crossed f g n parts) (IsPermutation-refl (J (λ r. g r n) 4))))
    (interleaved (λ r. J (g r) n) (λ r. g r n) 4)

pub dealt : (lists : List Listed) (cuts : ℕ → List ℕ) → IsPermutation (J (shown_at lists) (length lists)) (J (ranges_at lists cuts) 4)
dealt lists cuts = crossed (shown_at lists) (range_in lists cuts) (length lists) (λ i. fronts (shown_at lists i) (cuts i))

-- one cut more
pub one_cut : (list left back : List Shown) (cuts : List ℕ) (count n cut : ℕ) → count ≡ suc n → left ≡ left_of list cuts n → cut ≡ cut_from left (slice_get cuts n) → back ≡ drop cut left → back ≡ left_of list cuts count
one_cut list left back cuts count n cut number is taken behind =
    behind
    ∙ (λ i. drop ((taken ∙ ap (λ l. cut_from l (slice_get cuts n)) is) i) (is i))
    ∙ ap (left_of list cuts) (sym number)

-- ---- ranges

shown_within : (ranges : List Listed) (n : ℕ) → n < length ranges → (l : Listed) × (slice_get ranges n ≡ Some l)
shown_within ranges n within = elim (slice_get_cases ranges n).1 [
  | inl w ↦ (w.0, w.2)
  | inr past ↦ let high = past.0 in absurd (omega (high, within, arith))
]

pub ranges_same : (lists ranges : List Listed) (cuts : ℕ → List ℕ) (n : ℕ) → ((i : ℕ) (l : Listed) → slice_get ranges i ≡ Some l → IsRange lists cuts i l) → n ≤ length ranges → IsPermutation (J (ranges_at lists cuts) n) (J (shown_at ranges) n)
ranges_same lists ranges cuts zero each fits = IsPermutation-refl []
ranges_same lists ranges cuts (suc n) each fits =
    let w = shown_within ranges n (omega (arith, fits)) in
    IsPermutation-append (J (ranges_at lists cuts) n) (J (shown_at ranges) n) (ranges_at lists cuts n) (shown_at ranges n) (ranges_same lists ranges cuts n each (omega (arith, fits)))
    (subst (λ (o : Option Listed). IsPermutation (ranges_at lists cuts n) (shown_in o)) (sym w.1) (each n w.0 w.1).same)

abbrev made : Listed → Result Listed AllocError
made = Ok

pub all_ranges : (lists ranges : List Listed) (found : List (Result Listed AllocError)) (cuts : ℕ → List ℕ) → map made ranges ≡ found → ((i : ℕ) (l : Listed) → slice_get found i ≡ Some (made l) → IsRange lists cuts i l)
    → (i : ℕ) (l : Listed) → slice_get ranges i ≡ Some l → IsRange lists cuts i l
all_ranges lists ranges found cuts is each i l at =
    each i l (ap (λ fs. slice_get fs i) (sym is) ∙ slice_get-map made ranges i ∙ ap (option_map made) at)

pub as_many : (ranges : List Listed) (found : List (Result Listed AllocError)) → map made ranges ≡ found → length found ≡ 4 → length ranges ≡ 4
as_many ranges found is four = sym (length-map ranges made) ∙ ap length is ∙ four

-- what all ranges together have, where they were made of these lists
pub merged : (lists ranges : List Listed) (found : List (Result Listed AllocError)) (cuts : ℕ → List ℕ) (all : List Shown) → map made ranges ≡ found → length found ≡ 4 → ((i : ℕ) (l : Listed) → slice_get found i ≡ Some (made l) → IsRange lists cuts i l)
    → IsPermutation (J (shown_at ranges) (length ranges)) all → IsPermutation (J (shown_at lists) (length lists)) all
merged lists ranges found cuts all is four each moved =
    let number = as_many ranges found is four in
    let parts = ranges_same lists ranges cuts 4 (all_ranges lists ranges found cuts is each) (omega (arith, number)) in
    IsPermutation-trans (J (shown_at lists) (length lists)) (J (ranges_at lists cuts) 4) all (dealt lists cuts)
    (IsPermutation-trans (J (ranges_at lists cuts) 4) (J (shown_at ranges) 4) all parts (subst (λ n. IsPermutation (J (shown_at ranges) n) all) number moved))
