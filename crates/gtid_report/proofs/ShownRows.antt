-- The first values of a row, taken from its text word by word.
use Rattle.std.proofs.Common.{◌≡◌, ◌≢◌, ℕ, zero, suc, ◌+◌, ◌-◌, ◌<◌, ◌≤◌, Bool, true, false, cond, not, eqb, List, [], ◌∷◌, ◌++◌, length, take, drop, get_or, Option, Some, None, Bor, refl, sym, ap, subst, ◌∙◌, append_assoc, arith}
use Rattle.std.specs.Prelude.{◌&&◌, nat_lt, IfSome}
use Rattle.std.specs.Option.{MatchOption, option_copied}
use Rattle.std.specs.FinMap.{nat_cmp-IsAntisymmetric, slice_cmp-IsAntisymmetric}
use Rattle.std.specs.List.{list_all}
use Rattle.std.specs.Ordering.{nat_cmp, eq_by_cmp}
use Rattle.lemmas.proofs.Numbers.{equal_of}
use Rattle.std.specs.Cmp.Lexicographic.{slice_cmp}
use Rattle.std.proofs.lemmas.Option.{same_Some}
use Rattle.std.proofs.lemmas.Bool.{or_parts}
use Rattle.std.proofs.lemmas.Bool.Decides.{nat_tests}
use Rattle.std.proofs.lemmas.Grind.{flat_map-append}
use Rattle.std.proofs.Math.Seq.{take-length}
use Rattle.std.proofs.lemmas.List.{append-nil, length-drop}
use Rattle.std.proofs.lemmas.List.Folds.{list_all_at}
use Rattle.std.proofs.lemmas.Str.Pattern.{IsSplitOnceResult, split_after, split_parts}
use Rattle.row_images.specs.declared.value.Value.{Value}
use Rattle.row_images.specs.Values.{value_text, FitsValue}
use Rattle.row_images.specs.Images as images
use Rattle.row_images.proofs.ImageLaws.{no_blank}
use Rattle.rows.specs.declared.schema.Table.{Table}
use Rattle.rows.specs.Keys.{find_table}
use Rattle.gtid_report.specs.State.{values_text, shown_values, hides_columns, ShowAlike}

-- ---- a row in two parts

one_more : (n : ℕ) (row : List Value) (v : Value) (vs : List Value) → drop n row ≡ v ∷ vs → (take (suc n) row ≡ take n row ++ (v ∷ [])) × (drop (suc n) row ≡ vs)
one_more zero [] v vs e = absurd cc
one_more (suc n) [] v vs e = absurd cc
one_more zero (u ∷ us) v vs e = (ap (λ (l : List Value). get_or l 0 u ∷ []) e, ap (λ (l : List Value). drop 1 l) e)
one_more (suc n) (u ∷ us) v vs e = let p = one_more n us v vs e in (ap (λ (l : List Value). u ∷ l) p.0, p.1)

fits_behind : (n : ℕ) (row : List Value) → images.AreValues row → images.AreValues (drop n row)
fits_behind zero row fits = fits
fits_behind (suc n) [] fits = tt
fits_behind (suc n) (v ∷ vs) fits = fits_behind n vs fits.1

left_behind : (n : ℕ) (row : List Value) → n < length row → 0 < length (drop n row)
left_behind n [] lt = absurd (omega (arith, lt))
left_behind zero (v ∷ vs) lt = omega arith
left_behind (suc n) (v ∷ vs) lt = left_behind n vs (omega (arith, lt))

-- the words of one value more
more_text : (n : ℕ) (row : List Value) (v : Value) (vs : List Value) (out : List ℕ) → drop n row ≡ v ∷ vs → ((out ++ values_text (take n row)) ++ 32 ∷ []) ++ value_text v ≡ out ++ values_text (take (suc n) row)
more_text n row v vs out e =
    append_assoc (out ++ values_text (take n row)) (32 ∷ []) (value_text v)
    ∙ append_assoc out (values_text (take n row)) (32 ∷ value_text v)
    ∙ ap (λ (t : List ℕ). out ++ (values_text (take n row) ++ t)) (sym (append-nil (32 ∷ value_text v)))
    ∙ ap (λ (t : List ℕ). out ++ t) (sym (flat_map-append (λ (u : Value). 32 ∷ value_text u) (take n row) (v ∷ [])))
    ∙ ap (λ (l : List Value). out ++ values_text l) (sym (one_more n row v vs e).0)

-- ---- the first word

abbrev lacks_blank : List ℕ → Bool
lacks_blank text = list_all (λ b. not (eqb b 32)) text

lacks_at : (w : List ℕ) → lacks_blank w ≡ true → (i : ℕ) → i < length w → get_or w i 0 ≢ 32
lacks_at w none i lt e = absurd (let k = list_all_at (λ b. not (eqb b 32)) w i 0 lt (rw e refl) in cc)

blank_within : (a b : List ℕ) → lacks_blank (a ++ 32 ∷ b) ≡ false
blank_within [] b = refl
blank_within (c ∷ a) b = elim (not (eqb c 32)) as (λ v. (v && lacks_blank (a ++ 32 ∷ b)) ≡ false) [ true ↦ blank_within a b | false ↦ refl ]

-- there is one value, or the first blank stands behind the first
abbrev IsCut : List Value → Option (Bor (List ℕ) × Bor (List ℕ)) → Type 0
IsCut vs r = MatchOption r ((v : Value) × (vs ≡ v ∷ [])) (λ x. (v : Value) × (us : List Value) × (vs ≡ v ∷ us) × (x.0.now ≡ value_text v) × (x.1.now ≡ images.values_text us))

cut_one : (v : Value) (r : Option (Bor (List ℕ) × Bor (List ℕ))) → FitsValue v → IsSplitOnceResult 32 (value_text v) r → IsCut (v ∷ []) r
cut_one v None fits s = (v, refl)
cut_one v (Some x) fits s =
    let p = split_parts 32 (value_text v) (Some x) s (omega arith) in
    absurd (let k = ap (lacks_blank) p.0 in let b = blank_within x.0.now x.1.now in let n = no_blank v fits in cc)

cut_more : (v w : Value) (us : List Value) (r : Option (Bor (List ℕ) × Bor (List ℕ))) → FitsValue v → IsSplitOnceResult 32 (images.values_text (v ∷ w ∷ us)) r → IsCut (v ∷ w ∷ us) r
cut_more v w us None fits s = absurd (split_after 32 (images.values_text (v ∷ w ∷ us)) (value_text v) (images.values_text (w ∷ us)) None s (omega arith) refl (lacks_at (value_text v) (no_blank v fits)))
cut_more v w us (Some x) fits s =
    let p = split_after 32 (images.values_text (v ∷ w ∷ us)) (value_text v) (images.values_text (w ∷ us)) (Some x) s (omega arith) refl (lacks_at (value_text v) (no_blank v fits)) in
    (v, w ∷ us, refl, p.0, p.1)

cut_found : (vs : List Value) (r : Option (Bor (List ℕ) × Bor (List ℕ))) → images.AreValues vs → 0 < length vs → IsSplitOnceResult 32 (images.values_text vs) r → IsCut vs r
cut_found [] r fits some s = absurd (omega (arith, some))
cut_found (v ∷ []) r fits some s = cut_one v r fits.0 s
cut_found (v ∷ w ∷ us) r fits some s = cut_more v w us r fits.0 s

cut_at : (n : ℕ) (row : List Value) (left : List ℕ) (r : Option (Bor (List ℕ) × Bor (List ℕ))) → images.AreValues row → n < length row → left ≡ images.values_text (drop n row) → IsSplitOnceResult 32 left r → IsCut (drop n row) r
cut_at n row left r fits lt is s = cut_found (drop n row) r (fits_behind n row fits) (left_behind n row lt) (subst (λ (t : List ℕ). IsSplitOnceResult 32 t r) is s)

-- ---- the word of one value more

-- where no blank is left, the value is the last
pub last_word : (n count : ℕ) (row : List Value) (left out : List ℕ) → images.AreValues row → n < count → count ≤ length row → left ≡ images.values_text (drop n row) → IsSplitOnceResult 32 left None
    → ((out ++ values_text (take n row)) ++ 32 ∷ []) ++ left ≡ out ++ values_text (take count row)
last_word n count row left out fits here enough is s =
    let p = cut_at n row left None fits (omega (arith, here, enough)) is s in
    ap (λ (t : List ℕ). ((out ++ values_text (take n row)) ++ 32 ∷ []) ++ t) (is ∙ ap images.values_text p.1)
    ∙ more_text n row p.0 [] out p.1
    ∙ ap (λ (m : ℕ). out ++ values_text (take m row)) (all_of n count row p.0 p.1 here enough)
  where
    all_of : (n count : ℕ) (row : List Value) (v : Value) → drop n row ≡ v ∷ [] → n < count → count ≤ length row → suc n ≡ count
    all_of n count row v e here enough = let k = ap (λ (l : List Value). length l) e in let d = length-drop n row in omega (arith, k, d, here, enough)

pub next_word : (n : ℕ) (row : List Value) (left out : List ℕ) (x : Bor (List ℕ) × Bor (List ℕ)) → images.AreValues row → n < length row → left ≡ images.values_text (drop n row) → IsSplitOnceResult 32 left (Some x)
    → (((out ++ values_text (take n row)) ++ 32 ∷ []) ++ x.0.now ≡ out ++ values_text (take (n + 1) row)) × (x.1.now ≡ images.values_text (drop (n + 1) row))
next_word n row left out x fits lt is s =
    let p = cut_at n row left (Some x) fits lt is s in
    let one : suc n ≡ n + 1 = omega arith in (
      ap (λ (t : List ℕ). ((out ++ values_text (take n row)) ++ 32 ∷ []) ++ t) p.3 ∙ more_text n row p.0 p.1 out p.2 ∙ ap (λ m. out ++ values_text (take m row)) one,
      p.4 ∙ ap images.values_text (sym (one_more n row p.0 p.1 p.2).1 ∙ ap (λ m. drop m row) one),
    )

-- ---- tables

pub nothing_hidden : (row : List Value) (hidden : ℕ) → hidden ≡ 0 → row ≡ take (length row - hidden) row
nothing_hidden row hidden none = sym (take-length row) ∙ ap (λ m. take m row) (let k : length row ≡ length row - hidden = omega (arith, none) in k)

same_name : (a b : List ℕ) → eq_by_cmp (slice_cmp nat_cmp) a b ≡ true → a ≡ b
same_name a b e = slice_cmp-IsAntisymmetric nat_cmp-IsAntisymmetric a b (equal_of (slice_cmp nat_cmp a b) e)

name_found : (name : List ℕ) (schema : List Table) (found : Table) → find_table name schema ≡ Some found → name ≡ found.name
name_found name [] found e = absurd cc
name_found name (t ∷ schema) found e =
    elim (eq_by_cmp (slice_cmp nat_cmp) name t.name) as (λ b. eq_by_cmp (slice_cmp nat_cmp) name t.name ≡ b → cond b (Some t) (find_table name schema) ≡ Some found → name ≡ found.name) [
      | true ↦ λ same is. same_name name t.name same ∙ ap (λ (x : Table). x.name) (same_Some t found is)
      | false ↦ λ other is. name_found name schema found is
    ] refl e

-- what is found is found by its own name
pub own_found : (name : List ℕ) (schema : List Table) (r : Option (Bor Table)) → option_copied r ≡ find_table name schema → IfSome r (λ (t : Bor Table). find_table t.now.name schema ≡ Some t.now)
own_found name schema None e = tt
own_found name schema (Some t) e = subst (λ (n : List ℕ). find_table n schema ≡ Some t.now) (name_found name schema t.now (sym e)) (sym e)

pub still_found : (name : List ℕ) (schema : List Table) (t : Table) → find_table t.name schema ≡ Some t → eq_by_cmp (slice_cmp nat_cmp) t.name name ≡ true → Some t ≡ find_table name schema
still_found name schema t e same = sym e ∙ ap (λ (n : List ℕ). find_table n schema) (same_name t.name name same)

-- where no table hides a column, a row is shown as that of no table is
pub none_hides : (name : List ℕ) (schema : List Table) → false ≡ hides_columns schema → ShowAlike None (find_table name schema)
none_hides name [] none row = refl
none_hides name (t ∷ schema) none row =
    let parts = or_parts (nat_lt 0 t.hidden) (hides_columns schema) (sym none) in
    elim (eq_by_cmp (slice_cmp nat_cmp) name t.name) as (λ b. row ≡ shown_values (cond b (Some t) (find_table name schema)) row) [
      | true ↦ nothing_hidden row t.hidden (grind (arith, nat_tests, parts.0))
      | false ↦ none_hides name schema (sym parts.1) row
    ]

pub found_shows : (name : List ℕ) (schema : List Table) (found : Option Table) → found ≡ find_table name schema → ShowAlike found (find_table name schema)
found_shows name schema found e row = ap (λ (o : Option Table). shown_values o row) e
