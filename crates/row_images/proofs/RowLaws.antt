-- What the text of a row shows of its values.
use Rattle.std.proofs.Common.{◌≡◌, ℕ, zero, suc, ◌*◌, ◌≤◌, ◌<◌, Bool, true, false, eqb, ltb, List, [], ◌∷◌, length, get_or, Option, Some, None, is_some, refl, sym, ap, subst, ◌∙◌, arith, pos, negsuc}
use Rattle.std.specs.Prelude.{◌||◌, nat_eq, codes, option_map}
use Rattle.std.specs.Bool.{Decides}
use Rattle.std.specs.Ordering.{eq_by_cmp}
use Rattle.std.specs.Option.{unwrap_or}
use Rattle.std.specs.List.{list_all, list_any, slice_get}
use Rattle.std.specs.Char.{is_ascii_digit}
use Rattle.std.specs.Fmt.{decimal}
use Rattle.std.specs.Str.{bytes_eq, IsAscii, IsUtf8}
use Rattle.std.specs.Cmp.Lexicographic.{pointwise}
use Rattle.std.proofs.lemmas.Bool.{and_parts, false_from_ne_true, ltb-true, ne_eqb}
use Rattle.std.proofs.lemmas.Bool.Decides.{nat_tests}
use Rattle.std.proofs.lemmas.Fmt.{digits_decimal, IsAscii-decimal}
use Rattle.std.proofs.lemmas.List.{length-map, length-append}
use Rattle.std.proofs.lemmas.Option.{same_Some, slice_get-map, unwrap_or-slice_get}
use Rattle.std.proofs.lemmas.Slice.Eq.{bytes_eq-Decides}
use Rattle.std.proofs.lemmas.Str.{IsUtf8-from_ascii, IsAscii-append}
use Rattle.std.proofs.lemmas.Str.Ascii.{IsAscii-nil, IsAscii-cons}
use Rattle.hex.specs.Hex.{lower_digits, encode_lower}
use Rattle.hex.proofs.HexLemmas.{length-encode_with}
use Rattle.gtid_text.proofs.Tokens.{own}
use Rattle.row_images.specs.declared.value.Value.{Value}
use Rattle.row_images.specs.declared.value.Value.TheVariants.{Null, Int, Bytes}
use Rattle.row_images.specs.Parts.{parts_of, joined_by}
use Rattle.row_images.specs.Order.{row_eq, value_cmp}
use Rattle.row_images.specs.Values.{value_text, value_of, FitsValue, is_null, is_longer, is_long_word}
use Rattle.row_images.specs.Images.{words_of, values_text, AreValues, image_of, values_in}
use Rattle.row_images.proofs.PartLaws.{parts_joined, words_cut}
use Rattle.row_images.proofs.ValueLaws.{value_of-text, no_digit}
use Rattle.row_images.proofs.AsciiLemmas.{ascii_word, ascii_digits}
use Rattle.row_images.proofs.Equal.{told, columns-Decide, rows-Decide, values-Decide}
use Rattle.row_images.proofs.ImageLaws.{texts, none_in_nothing, row_words, values_fit, values_found}

-- ---- the text of values is ASCII

value_ascii : (v : Value) → FitsValue v → IsAscii (value_text v)
value_ascii Null fits = ascii_word (codes "null") refl
value_ascii (Int (pos n)) fits = IsAscii-decimal n (omega (arith, fits))
value_ascii (Int (negsuc n)) fits = IsAscii-cons 45 (decimal (suc n)) (omega arith) (IsAscii-decimal (suc n) (omega (arith, fits)))
value_ascii (Bytes bs) fits = IsAscii-cons 120 (encode_lower bs) (omega arith) (ascii_digits bs)

values_ascii : (vs : List Value) → AreValues vs → IsAscii (values_text vs)
values_ascii [] fits = IsAscii-nil
values_ascii (v ∷ []) fits = value_ascii v fits.0
values_ascii (v ∷ w ∷ vs) fits = IsAscii-append (value_text v) (32 ∷ values_text (w ∷ vs)) (value_ascii v fits.0) (IsAscii-cons 32 (values_text (w ∷ vs)) (omega arith) (values_ascii (w ∷ vs) fits.1))

pub values_utf8 : (vs : List Value) → AreValues vs → IsUtf8 (values_text vs)
values_utf8 vs fits = IsUtf8-from_ascii (values_text vs) (values_ascii vs fits)

-- ---- how many values there are

words_stand : (t : List ℕ) → 0 < length (words_of t)
words_stand t = subst (λ (ws : List (List ℕ)). 0 < length ws) (sym (words_cut t)) (omega arith)

pub stands : (t : List ℕ) → eqb (length t) 0 ≡ false → 0 < length t
stands [] some = absurd cc
stands (b ∷ bs) some = omega arith

pub no_values : (t : List ℕ) → length t ≡ 0 → 0 ≡ length (values_in t)
no_values [] none = sym (ap (λ (vs : List Value). length vs) none_in_nothing)
no_values (b ∷ bs) none = absurd (omega (arith, none))

pub some_values : (t : List ℕ) → values_text (values_in t) ≡ t → 0 < length t → length (words_of t) ≡ length (values_in t)
some_values t same some = ap (λ (ws : List (List ℕ)). length ws) (row_words t same some) ∙ length-map (values_in t) value_text

counted_in : (t : List ℕ) (o : Option (List Value)) → image_of t ≡ o → is_some o ≡ true → length (words_of t) ≡ length (unwrap_or o [])
counted_in t None e some = absurd cc
counted_in t (Some vs) e some = ap (λ (ws : List (List ℕ)). length ws) (values_found (words_of t) vs e).0 ∙ length-map vs value_text

-- a text that is read has a word for each value
pub counted : (t : List ℕ) → is_some (image_of t) ≡ true → length (words_of t) ≡ length (values_in t)
counted t some = counted_in t (image_of t) refl some

empty_some : (t : List ℕ) (n : ℕ) → 0 < length t → 0 < n → eqb (length t) 0 ≡ eqb n 0
empty_some [] n some e = absurd (omega arith)
empty_some (b ∷ bs) zero some e = absurd (omega (arith, e))
empty_some (b ∷ bs) (suc n) some e = ne_eqb (length (b ∷ bs)) 0 (λ k. absurd (omega (arith, k))) ∙ sym (ne_eqb (suc n) 0 (λ k. absurd (omega (arith, k))))

pub empty_with : (t : List ℕ) → values_text (values_in t) ≡ t → eqb (length t) 0 ≡ eqb (length (values_in t)) 0
empty_with [] same = ap (λ n. eqb n 0) (no_values [] refl)
empty_with (b ∷ bs) same = empty_some (b ∷ bs) (length (values_in (b ∷ bs))) (omega arith) (subst (λ n. 0 < n) (some_values (b ∷ bs) same (omega arith)) (words_stand (b ∷ bs)))

-- ---- the word at a place

pub word_at : (t : List ℕ) (k : ℕ) → values_text (values_in t) ≡ t → 0 < length t → slice_get (words_of t) k ≡ option_map value_text (slice_get (values_in t) k)
word_at t k same some = ap (λ (ws : List (List ℕ)). slice_get ws k) (row_words t same some) ∙ slice_get-map value_text (values_in t) k

-- a text with a value at a place is not empty
pub holds_one : (t : List ℕ) (k : ℕ) → k < length (values_in t) → 0 < length t
holds_one [] k lt = let none = ap (λ (vs : List Value). length vs) none_in_nothing in absurd (omega (arith, lt, none))
holds_one (b ∷ bs) k lt = omega arith

-- a value and its word
record There (vs : List Value) (k : ℕ) (w : List ℕ) : Type 0 where
  value : Value
  fits : FitsValue value
  text : w ≡ value_text value
  at : get_or vs k Null ≡ value

there : (vs : List Value) (k : ℕ) (w : List ℕ) → AreValues vs → Some w ≡ option_map value_text (slice_get vs k) → There vs k w
there [] k w fits e = absurd cc
there (v ∷ vs) zero w fits e = record { value = v; fits = fits.0; text = same_Some w (value_text v) e; at = refl }
there (v ∷ vs) (suc k) w fits e = let t = there vs k w fits.1 e in record { value = t.value; fits = t.fits; text = t.text; at = t.at }

pub value_there : (vs : List Value) (k : ℕ) (w : List ℕ) (found : Option Value) → AreValues vs → Some w ≡ option_map value_text (slice_get vs k) → found ≡ value_of w → unwrap_or found Null ≡ get_or vs k Null
value_there vs k w found fits e is =
    let t = there vs k w fits e in
    ap (λ (o : Option Value). unwrap_or o Null) (is ∙ ap value_of t.text ∙ value_of-text t.value t.fits) ∙ sym t.at

none_mapped : (o : Option Value) → None ≡ option_map value_text o → o ≡ None
none_mapped None e = refl
none_mapped (Some v) e = absurd cc

pub null_past : (vs : List Value) (k : ℕ) → None ≡ option_map value_text (slice_get vs k) → Null ≡ get_or vs k Null
null_past vs k e = ap (λ (o : Option Value). unwrap_or o Null) (sym (none_mapped (slice_get vs k) e)) ∙ unwrap_or-slice_get vs k Null

pub null_word : (v : Value) → FitsValue v → bytes_eq (value_text v) (codes "null") ≡ is_null v
null_word Null fits = refl
null_word (Int z) fits = false_from_ne_true _ (λ e. let k = sym (value_of-text (Int z) fits) ∙ ap value_of ((bytes_eq-Decides (value_text (Int z)) (codes "null")).0 e) in absurd cc)
null_word (Bytes bs) fits = false_from_ne_true _ (λ e. let k = sym (value_of-text (Bytes bs) fits) ∙ ap value_of ((bytes_eq-Decides (value_text (Bytes bs)) (codes "null")).0 e) in absurd cc)

pub null_there : (vs : List Value) (k : ℕ) (w : List ℕ) → AreValues vs → Some w ≡ option_map value_text (slice_get vs k) → bytes_eq w (codes "null") ≡ is_null (get_or vs k Null)
null_there vs k w fits e =
    let t = there vs k w fits e in
    ap (λ x. bytes_eq x (codes "null")) t.text ∙ null_word t.value t.fits ∙ ap is_null (sym t.at)

-- ---- long values

digits_short : (most : ℕ) (w : List ℕ) → list_all is_ascii_digit w ≡ true → is_long_word most w ≡ false
digits_short most [] all = refl
digits_short most (b ∷ bs) all = rw (no_digit b 120 refl (and_parts (is_ascii_digit b) (list_all is_ascii_digit bs) all).0) refl

twice : (most n : ℕ) → ltb (2 * most) (2 * n) ≡ ltb most n
twice most n = grind (arith, nat_tests)

long_word : (most : ℕ) (v : Value) → FitsValue v → is_long_word most (value_text v) ≡ is_longer most v
long_word most Null fits = refl
long_word most (Int (pos n)) fits = digits_short most (decimal n) (digits_decimal own n (omega (arith, fits)))
long_word most (Int (negsuc n)) fits = refl
long_word most (Bytes bs) fits = ap (λ n. ltb (2 * most) n) (length-encode_with lower_digits bs) ∙ twice most (length bs)

long_words : (most : ℕ) (vs : List Value) → AreValues vs → list_any (is_long_word most) (texts vs) ≡ list_any (is_longer most) vs
long_words most [] fits = refl
long_words most (v ∷ vs) fits = λ i. long_word most v fits.0 i || long_words most vs fits.1 i

any_long_in : (most : ℕ) (t : List ℕ) → values_text (values_in t) ≡ t → 0 < length t → list_any (is_long_word most) (words_of t) ≡ list_any (is_longer most) (values_in t)
any_long_in most t same some = ap (list_any (is_long_word most)) (row_words t same some) ∙ long_words most (values_in t) (values_fit t)

pub any_long : (most : ℕ) (t : List ℕ) → values_text (values_in t) ≡ t → list_any (is_long_word most) (words_of t) ≡ list_any (is_longer most) (values_in t)
unfolding parts_of
any_long most [] same = ap (list_any (is_longer most)) (sym none_in_nothing)
any_long most (b ∷ bs) same = any_long_in most (b ∷ bs) same (omega arith)

long_length : (most : ℕ) (w : List ℕ) → is_long_word most w ≡ true → 2 * most < length w
long_length most [] long = absurd cc
long_length most (b ∷ bs) long = let lt = ltb-true (2 * most) (length bs) (and_parts (eqb b 120) (ltb (2 * most) (length bs)) long).1 in omega (arith, lt)

either : {A : Type 0} (b d : Bool) → (b || d) ≡ true → (b ≡ true → A) → (d ≡ true → A) → A
either true d e one other = one refl
either false d e one other = other e

one_of : (b : Bool) → (b || false) ≡ true → b ≡ true
one_of true e = refl
one_of false e = e

long_joined : (most : ℕ) (ws : List (List ℕ)) → list_any (is_long_word most) ws ≡ true → 2 * most < length (joined_by 32 ws)
long_joined most [] any = absurd cc
long_joined most (w ∷ []) any = long_length most w (one_of (is_long_word most w) any)
long_joined most (w ∷ x ∷ ws) any =
    let whole = length-append w (32 ∷ joined_by 32 (x ∷ ws)) in
    either (is_long_word most w) (list_any (is_long_word most) (x ∷ ws)) any
    (λ long. let lt = long_length most w long in omega (arith, whole, lt))
    (λ more. let lt = long_joined most (x ∷ ws) more in omega (arith, whole, lt))

-- a text that is shorter than such a word has none
pub short_text : (most : ℕ) (t : List ℕ) → length t ≤ 2 * most → false ≡ list_any (is_long_word most) (words_of t)
short_text most t le = sym (false_from_ne_true _ (λ any. let lt = long_joined most (words_of t) any in let same = ap (λ (x : List ℕ). length x) (parts_joined 32 t) in absurd (omega (arith, le, lt, same))))

-- ---- rows are equal where their texts are

pub rows_same : (s t : List ℕ) → values_text (values_in s) ≡ s → values_text (values_in t) ≡ t → pointwise nat_eq s t ≡ row_eq (values_in s) (values_in t)
rows_same s t here there =
    let d : Decides (pointwise nat_eq s t) (values_in s ≡ values_in t) = (
      λ e. ap values_in ((columns-Decide s t).0 e),
      λ e. (columns-Decide s t).1 (sym here ∙ ap values_text e ∙ there),
    ) in
    told (pointwise nat_eq s t) (row_eq (values_in s) (values_in t)) d (rows-Decide (values_in s) (values_in t))

-- ---- values are equal where their words are

pub word_is : (vs : List Value) (k : ℕ) (w : List ℕ) → Some w ≡ option_map value_text (slice_get vs k) → w ≡ value_text (get_or vs k Null)
word_is [] k w e = absurd cc
word_is (v ∷ vs) zero w e = same_Some w (value_text v) e
word_is (v ∷ vs) (suc k) w e = word_is vs k w e

pub fits_at : (vs : List Value) (k : ℕ) → AreValues vs → FitsValue (get_or vs k Null)
fits_at [] k fits = tt
fits_at (v ∷ vs) zero fits = fits.0
fits_at (v ∷ vs) (suc k) fits = fits_at vs k fits.1

pub words_same : (v w : Value) → FitsValue v → FitsValue w → pointwise nat_eq (value_text v) (value_text w) ≡ eq_by_cmp value_cmp v w
words_same v w here there =
    let d : Decides (pointwise nat_eq (value_text v) (value_text w)) (v ≡ w) = (
      λ e. same_Some v w (sym (value_of-text v here) ∙ ap value_of ((columns-Decide (value_text v) (value_text w)).0 e) ∙ value_of-text w there),
      λ e. (columns-Decide (value_text v) (value_text w)).1 (ap value_text e),
    ) in
    told (pointwise nat_eq (value_text v) (value_text w)) (eq_by_cmp value_cmp v w) d (values-Decide v w)
