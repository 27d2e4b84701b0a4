-- Images: what is read is written so, and what is written so is read.
use Rattle.std.proofs.Common.{◌≡◌, ℕ, ◌-◌, ◌≤◌, ◌<◌, true, false, is_some, List, [], ◌∷◌, ◌++◌, length, map, take, drop, get_or, Option, Some, None, refl, sym, ap, subst, ◌∙◌, append_assoc, arith, pos, negsuc}
use Rattle.std.specs.Option.{unwrap_or}
use Rattle.std.proofs.lemmas.List.{append-nil, take_rest}
use Rattle.std.proofs.lemmas.Option.{same_Some}
use Rattle.row_images.specs.declared.value.Value.{Value}
use Rattle.row_images.specs.Parts.{parts_of, joined_by}
use Rattle.row_images.specs.Values.{value_text, value_of, FitsValue}
use Rattle.row_images.specs.Images.{words_of, values_text, values_behind, AreValues, and_others, values_of, image_of, values_in}
use Rattle.row_images.proofs.Counts.{lacks}
use Rattle.row_images.proofs.PartLaws.{AllLack, parts_joined, parts_again}
use Rattle.std.proofs.lemmas.Fmt.{decimal_nonempty}
use Rattle.row_images.specs.declared.value.Value.TheVariants.{Null, Int, Bytes}
use Rattle.row_images.proofs.ValueLaws.{value_of-text, value_of-found, value_lacks, blank_is_none, none_is as nothing_is}

-- ---- values one after another

-- the first of some values, and the others after it
first_value : (v : Value) (vs : List Value) → values_text (v ∷ vs) ≡ value_text v ++ values_behind vs
first_value v [] = sym (append-nil (value_text v))
first_value v (w ∷ vs) = ap (λ (t : List ℕ). value_text v ++ 32 ∷ t) (first_value w vs)

pub values_first : (out : List ℕ) (v : Value) (vs : List Value) → (out ++ value_text v) ++ values_behind vs ≡ out ++ values_text (v ∷ vs)
values_first out v vs = append_assoc out (value_text v) (values_behind vs) ∙ ap (λ (t : List ℕ). out ++ t) (sym (first_value v vs))

-- values that a slice has, by its first and the others
pub values_cut : (out : List ℕ) (v : Value) (vs : List Value) → 1 ≤ length vs → v ≡ get_or vs 0 v → (out ++ value_text v) ++ values_behind (take (length vs - 1) (drop 1 vs)) ≡ out ++ values_text vs
values_cut out v [] some is = absurd (omega arith)
values_cut out v (w ∷ ws) some is =
    ap (λ (t : List Value). (out ++ value_text v) ++ values_behind t) (take_rest (w ∷ ws) 1)
    ∙ ap (λ (x : Value). (out ++ value_text x) ++ values_behind ws) is
    ∙ values_first out w ws

-- ---- the words of values

abbrev pub texts : List Value → List (List ℕ)
texts vs = map value_text vs

pub no_blank : (v : Value) → FitsValue v → lacks 32 (value_text v) ≡ true
no_blank v fits = value_lacks 32 v blank_is_none fits

pub texts_lack : (c : ℕ) (vs : List Value) → ((v : Value) → FitsValue v → lacks c (value_text v) ≡ true) → AreValues vs → AllLack c (texts vs)
texts_lack c [] none fits = tt
texts_lack c (v ∷ vs) none fits = (none v fits.0, texts_lack c vs none fits.1)

pub words_texts : (v : Value) (vs : List Value) → AreValues (v ∷ vs) → words_of (values_text (v ∷ vs)) ≡ texts (v ∷ vs)
words_texts v vs fits = parts_again 32 (value_text v) (texts vs) (texts_lack 32 (v ∷ vs) no_blank fits)

-- ---- what is read

and_others_found : (o : Option Value) (p : Option (List Value)) (vs : List Value) → and_others o p ≡ Some vs → (v : Value) × (us : List Value) × (o ≡ Some v) × (p ≡ Some us) × (v ∷ us ≡ vs)
and_others_found None p vs e = absurd cc
and_others_found (Some v) None vs e = absurd cc
and_others_found (Some v) (Some us) vs e = (v, us, refl, refl, same_Some (v ∷ us) vs e)

pub values_found : (ws : List (List ℕ)) (vs : List Value) → values_of ws ≡ Some vs → (ws ≡ texts vs) × AreValues vs
values_found [] vs e = let k = same_Some [] vs e in (ap texts k, subst AreValues k tt)
values_found (w ∷ ws) vs e =
    let p = and_others_found (value_of w) (values_of ws) vs e in
    let f = value_of-found w p.0 p.2 in
    let r = values_found ws p.1 p.3 in
    (subst (λ (us : List Value). w ∷ ws ≡ texts us) p.4 (λ i. f.0 i ∷ r.0 i), subst AreValues p.4 (f.1, r.1))

pub image_found : (t : List ℕ) (vs : List Value) → image_of t ≡ Some vs → (t ≡ values_text vs) × AreValues vs
image_found t vs e = let f = values_found (words_of t) vs e in (sym (parts_joined 32 t) ∙ ap (joined_by 32) f.0, f.1)

-- ---- what is written

values_again : (vs : List Value) → AreValues vs → values_of (texts vs) ≡ Some vs
values_again [] fits = refl
values_again (v ∷ vs) fits = rw (value_of-text v fits.0, values_again vs fits.1) refl

pub image_again : (v : Value) (vs : List Value) → AreValues (v ∷ vs) → image_of (values_text (v ∷ vs)) ≡ Some (v ∷ vs)
image_again v vs fits = ap values_of (words_texts v vs fits) ∙ values_again (v ∷ vs) fits

-- ---- the values of a row

word_stands : (v : Value) → FitsValue v → 0 < length (value_text v)
word_stands Null fits = omega arith
word_stands (Int (pos n)) fits = decimal_nonempty n (omega (arith, fits))
word_stands (Int (negsuc n)) fits = omega arith
word_stands (Bytes bs) fits = omega arith

empty_word : None ≡ value_of []
empty_word = nothing_is (value_of []) (λ v e. let f = value_of-found [] v e in let k = ap (λ (x : List ℕ). length x) f.0 in let s = word_stands v f.1 in omega (arith, k, s))

pub none_in_nothing : values_in [] ≡ []
unfolding parts_of
none_in_nothing = ap (λ (o : Option Value). unwrap_or (and_others o (Some [])) []) (sym empty_word)

pub written_in : (vs : List Value) → AreValues vs → values_in (values_text vs) ≡ vs
written_in [] fits = none_in_nothing
written_in (v ∷ vs) fits = ap (λ (o : Option (List Value)). unwrap_or o []) (image_again v vs fits)

-- so the text that was written is that of its values
pub written_text : (t : List ℕ) (vs : List Value) → t ≡ values_text vs → AreValues vs → values_text (values_in t) ≡ t
written_text t vs e fits = ap values_text (ap values_in e ∙ written_in vs fits) ∙ sym e

fit_in : (t : List ℕ) (o : Option (List Value)) → image_of t ≡ o → AreValues (unwrap_or o [])
fit_in t None e = tt
fit_in t (Some vs) e = (image_found t vs e).1

pub values_fit : (t : List ℕ) → AreValues (values_in t)
values_fit t = fit_in t (image_of t) refl

read_in : (t : List ℕ) (o : Option (List Value)) → image_of t ≡ o → is_some o ≡ true → values_text (unwrap_or o []) ≡ t
read_in t None e some = absurd cc
read_in t (Some vs) e some = sym (image_found t vs e).0

-- the text that was read is that of its values
pub read_text : (t : List ℕ) → is_some (image_of t) ≡ true → values_text (values_in t) ≡ t
read_text t some = read_in t (image_of t) refl some

some_in : (o : Option (List Value)) → is_some o ≡ true → Some (unwrap_or o []) ≡ o
some_in None some = absurd cc
some_in (Some vs) some = refl

pub read_is : (t : List ℕ) → is_some (image_of t) ≡ true → Some (values_in t) ≡ image_of t
read_is t some = some_in (image_of t) some

none_is : (o : Option (List Value)) → is_some o ≡ false → None ≡ o
none_is None none = refl
none_is (Some vs) none = absurd cc

pub read_none : (t : List ℕ) → is_some (image_of t) ≡ false → None ≡ image_of t
read_none t none = none_is (image_of t) none

words_in : (t : List ℕ) (o : Option (List Value)) → image_of t ≡ o → values_text (unwrap_or o []) ≡ t → 0 < length t → words_of t ≡ texts (unwrap_or o [])
words_in t None e same some = absurd (let k = ap (λ (x : List ℕ). length x) same in omega (arith, k))
words_in t (Some vs) e same some = (values_found (words_of t) vs e).0

-- the words of a row that has some
pub row_words : (t : List ℕ) → values_text (values_in t) ≡ t → 0 < length t → words_of t ≡ texts (values_in t)
row_words t same some = words_in t (image_of t) refl same some
