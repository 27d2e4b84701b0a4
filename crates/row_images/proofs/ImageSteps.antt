-- An image word by word.
use Rattle.std.proofs.Common.{◌≡◌, ℕ, suc, zero, ◌+◌, ◌<◌, true, false, is_some, List, [], ◌∷◌, length, drop, Option, Some, None, refl, sym, ap, ◌∙◌, arith}
use Rattle.std.specs.Prelude.{◌||◌}
use Rattle.std.specs.List.{list_any, slice_get}
use Rattle.row_images.specs.declared.value.Value.{Value}
use Rattle.row_images.specs.Words.{first_word, others}
use Rattle.row_images.specs.Values.{value_of, is_long_word}
use Rattle.row_images.specs.Images.{words_of, and_others, values_of, image_of}
use Rattle.row_images.proofs.PartLaws.{more_words, words_cut}

abbrev later : Option (List ℕ) → Option (List Value)
later m = values_of (more_words m)

image_step : (t w : List ℕ) (m : Option (List ℕ)) → w ≡ first_word t → m ≡ others t → image_of t ≡ and_others (value_of w) (later m)
image_step t w m first rest = ap values_of (words_cut t ∙ sym (λ i. first i ∷ more_words (rest i)))

no_value : (o : Option Value) (p : Option (List Value)) → is_some o ≡ false → false ≡ is_some (and_others o p)
no_value None p none = refl
no_value (Some v) p none = absurd cc

a_value : (o : Option Value) (p : Option (List Value)) → is_some o ≡ true → is_some p ≡ is_some (and_others o p)
a_value None p some = absurd cc
a_value (Some v) None some = refl
a_value (Some v) (Some vs) some = refl

-- a word that is none of a value
pub image_ends : (t w : List ℕ) (m : Option (List ℕ)) → w ≡ first_word t → m ≡ others t → is_some (value_of w) ≡ false → false ≡ is_some (image_of t)
image_ends t w m first rest none = no_value (value_of w) (later m) none ∙ sym (ap is_some (image_step t w m first rest))

-- the last word
pub image_last : (t w : List ℕ) (m : Option (List ℕ)) → w ≡ first_word t → m ≡ others t → is_some (value_of w) ≡ true → m ≡ None → true ≡ is_some (image_of t)
image_last t w m first rest some last = ap (λ k. is_some (later k)) (sym last) ∙ a_value (value_of w) (later m) some ∙ sym (ap is_some (image_step t w m first rest))

-- a word before others
pub image_next : (t w r : List ℕ) (m : Option (List ℕ)) → w ≡ first_word t → m ≡ others t → is_some (value_of w) ≡ true → m ≡ Some r → is_some (image_of r) ≡ is_some (image_of t)
image_next t w r m first rest some more = ap (λ k. is_some (later k)) (sym more) ∙ a_value (value_of w) (later m) some ∙ sym (ap is_some (image_step t w m first rest))

-- ---- long words

long_step : (most : ℕ) (t w : List ℕ) (m : Option (List ℕ)) → w ≡ first_word t → m ≡ others t → (is_long_word most w || list_any (is_long_word most) (more_words m)) ≡ list_any (is_long_word most) (words_of t)
long_step most t w m first rest = ap (list_any (is_long_word most)) ((λ i. first i ∷ more_words (rest i)) ∙ sym (words_cut t))

pub long_here : (most : ℕ) (t w : List ℕ) (m : Option (List ℕ)) → w ≡ first_word t → m ≡ others t → is_long_word most w ≡ true → true ≡ list_any (is_long_word most) (words_of t)
long_here most t w m first rest long = sym (ap (λ b. b || list_any (is_long_word most) (more_words m)) long) ∙ long_step most t w m first rest

pub long_last : (most : ℕ) (t w : List ℕ) (m : Option (List ℕ)) → w ≡ first_word t → m ≡ others t → is_long_word most w ≡ false → m ≡ None → false ≡ list_any (is_long_word most) (words_of t)
long_last most t w m first rest short last = sym ((λ i. short i || list_any (is_long_word most) (more_words (last i)))) ∙ long_step most t w m first rest

pub long_next : (most : ℕ) (t w r : List ℕ) (m : Option (List ℕ)) → w ≡ first_word t → m ≡ others t → is_long_word most w ≡ false → m ≡ Some r → list_any (is_long_word most) (words_of r) ≡ list_any (is_long_word most) (words_of t)
long_next most t w r m first rest short more = sym (λ i. short i || list_any (is_long_word most) (more_words (more i))) ∙ long_step most t w m first rest

-- ---- how many words, and the word at a place

pub words_more : (t r : List ℕ) → others t ≡ Some r → length (words_of t) ≡ length (words_of r) + 1
words_more t r e = let k = ap (λ (ws : List (List ℕ)). length ws) (words_cut t ∙ ap (λ m. first_word t ∷ more_words m) e) in omega (arith, k)

pub words_last : (t : List ℕ) → others t ≡ None → length (words_of t) ≡ 1
words_last t e = ap (λ (ws : List (List ℕ)). length ws) (words_cut t ∙ ap (λ m. first_word t ∷ more_words m) e)

drop_next : (ws : List (List ℕ)) (w : List ℕ) (i : ℕ) (all : List (List ℕ)) → drop i all ≡ w ∷ ws → ws ≡ drop (suc i) all
drop_next ws w zero [] e = absurd cc
drop_next ws w zero (x ∷ xs) e = sym (ap (λ (l : List (List ℕ)). drop 1 l) e)
drop_next ws w (suc i) [] e = absurd cc
drop_next ws w (suc i) (x ∷ xs) e = drop_next ws w i xs e

pub words_from : (t r : List ℕ) (i : ℕ) (all : List (List ℕ)) → words_of t ≡ drop i all → Some r ≡ others t → words_of r ≡ drop (suc i) all
words_from t r i all here more = drop_next (words_of r) (first_word t) i all (sym here ∙ words_cut t ∙ ap (λ m. first_word t ∷ more_words m) (sym more))

-- the word at a place is the first of those from there
drop_first : (ws : List (List ℕ)) (w : List ℕ) (i : ℕ) (all : List (List ℕ)) → drop i all ≡ w ∷ ws → Some w ≡ slice_get all i
drop_first ws w zero [] e = absurd cc
drop_first ws w zero (x ∷ xs) e = ap (λ (l : List (List ℕ)). slice_get l 0) (sym e)
drop_first ws w (suc i) [] e = absurd cc
drop_first ws w (suc i) (x ∷ xs) e = drop_first ws w i xs e

pub word_there : (t w : List ℕ) (i : ℕ) (all : List (List ℕ)) → words_of t ≡ drop i all → w ≡ first_word t → Some w ≡ slice_get all i
word_there t w i all here is = ap Some is ∙ drop_first (more_words (others t)) (first_word t) i all (sym here ∙ words_cut t)

-- there is none after the last
drop_last : (w : List ℕ) (i k : ℕ) (all : List (List ℕ)) → drop i all ≡ w ∷ [] → i < k → None ≡ slice_get all k
drop_last w zero zero all e lt = absurd (omega (arith, lt))
drop_last w zero (suc k) [] e lt = absurd cc
drop_last w zero (suc k) (x ∷ xs) e lt = ap (λ (l : List (List ℕ)). slice_get l k) (sym (ap (λ (l : List (List ℕ)). drop 1 l) e))
drop_last w (suc i) zero all e lt = absurd (omega (arith, lt))
drop_last w (suc i) (suc k) [] e lt = absurd cc
drop_last w (suc i) (suc k) (x ∷ xs) e lt = drop_last w i k xs e (omega (arith, lt))

pub no_more : (t : List ℕ) (i k : ℕ) (all : List (List ℕ)) → words_of t ≡ drop i all → None ≡ others t → i < k → None ≡ slice_get all k
no_more t i k all here none lt = drop_last (first_word t) i k all (sym here ∙ words_cut t ∙ ap (λ m. first_word t ∷ more_words m) (sym none)) lt
