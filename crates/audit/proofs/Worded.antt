-- The words of a row's values, held in a text or in a list.
use Rattle.std.proofs.Common.{◌≡◌, ℕ, zero, suc, true, false, cond, ◌==◌, List, [], ◌∷◌, length, map, get_or, Option, None, refl, sym, ap, subst, ◌∙◌, arith}
use Rattle.std.specs.Prelude.{codes, option_map, slice_get, ◌||◌}
use Rattle.std.specs.List.{list_any, slice_split, onto_first}
use Rattle.std.specs.Option.{unwrap_or}
use Rattle.std.proofs.Math.ListN.{get_or-map}
use Rattle.std.proofs.lemmas.Bool.{eqb-true}
use Rattle.std.proofs.lemmas.Option.{slice_get-map, unwrap_or-slice_get}
use Rattle.row_images.specs.declared.value.Value.{Value}
use Rattle.row_images.specs.declared.value.Value.TheVariants.{Null}
use Rattle.row_images.specs.Images.{AreValues, values_text, words_of}
use Rattle.row_images.specs.Parts.{parts_of, cons_head}
use Rattle.row_images.specs.Values.{is_null, value_text}
use Rattle.row_images.proofs.ImageLaws.{words_texts}
use Rattle.rows.specs.Keys.{values_in}
use Rattle.audit.specs.RowTexts.{AreWords, words_held}

-- ---- the words of a text

alone : AreWords (words_of (codes "null")) []
unfolding parts_of
alone zero = refl
alone (suc k) = refl

-- a row of no value has the word of null
pub no_word : (row : List Value) (text : List ℕ) → (length row == 0) ≡ true → text ≡ codes "null" → AreWords (words_of text) row
no_word [] text none is = subst (λ t. AreWords (words_of t) []) (sym is) alone
no_word (v ∷ vs) text none is = let k = eqb-true (length (v ∷ vs)) 0 none in absurd (omega (arith, k))

pub some_words : (row : List Value) (text : List ℕ) → AreValues row → (length row == 0) ≡ false → text ≡ values_text row → AreWords (words_of text) row
some_words [] text are some is = absurd cc
some_words (v ∷ vs) text are some is = λ k.
    ap (λ t. get_or (words_of t) k (value_text Null)) is ∙ ap (λ (ws : List (List ℕ)). get_or ws k (value_text Null)) (words_texts v vs are) ∙ get_or-map value_text (v ∷ vs) k Null

onto_head : (b : ℕ) (ws : List (List ℕ)) → onto_first b ws ≡ cons_head b ws
onto_head b [] = refl
onto_head b (w ∷ ws) = refl

-- cut at each blank it is its words
pub split_words : (text : List ℕ) → slice_split (λ b. b == 32) text ≡ words_of text
unfolding parts_of
split_words [] = refl
split_words (b ∷ bs) =
    ap (λ (ws : List (List ℕ)). cond (b == 32) ([] ∷ ws) (onto_first b ws)) (split_words bs) ∙ ap (cond (b == 32) ([] ∷ words_of bs)) (onto_head b (words_of bs))

-- ---- the words that are held

module _ {A : Type 0} (word : A → List ℕ) where
  pub all_held : (list : List A) (text : List ℕ) → map word list ≡ words_of text → words_held (map word list) text ≡ words_of text
  all_held [] text are = refl
  all_held (x ∷ xs) text are = are

  pub held_in_text : (list : List A) (text : List ℕ) → (length list == 0) ≡ true → words_held (map word list) text ≡ words_of text
  held_in_text [] text none = refl
  held_in_text (x ∷ xs) text none = let k = eqb-true (length (x ∷ xs)) 0 none in absurd (omega (arith, k))

  pub held_in_list : (list : List A) (text : List ℕ) (k : ℕ) → (length list == 0) ≡ false → slice_get (words_held (map word list) text) k ≡ option_map word (slice_get list k)
  held_in_list [] text k some = absurd cc
  held_in_list (x ∷ xs) text k some = slice_get-map word (x ∷ xs) k

-- where no word is, the value is null
pub word_past : (words : List (List ℕ)) (row : List Value) (k : ℕ) → AreWords words row → None ≡ slice_get words k → value_text Null ≡ value_text (get_or row k Null)
word_past words row k are none = ap (λ (o : Option (List ℕ)). unwrap_or o (value_text Null)) none ∙ unwrap_or-slice_get words k (value_text Null) ∙ are k

-- ---- nulls

pub any_null : (columns : List ℕ) (row : List Value) → list_any (λ column. is_null (get_or row column Null)) columns ≡ list_any is_null (values_in columns row)
any_null [] row = refl
any_null (column ∷ columns) row = ap (λ b. is_null (get_or row column Null) || b) (any_null columns row)
