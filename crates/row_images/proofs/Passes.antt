-- A row word by word, in one pass.
use Rattle.std.proofs.Common.{◌≡◌, ◌≢◌, ℕ, ◌+◌, ◌<◌, ◌∷◌, ◌++◌, [], List, length, take, drop, get_or, set, get_or-set_other, get_or-set_same, below_more, Bool, false, nat_eq, Option, Some, None, refl, sym, ap, ◌∙◌, add-zero, arith}
use Rattle.std.specs.Prelude.{codes}
use Rattle.std.specs.Cmp.Lexicographic.{pointwise}
use Rattle.std.specs.Option.{unwrap_or}
use Rattle.std.specs.Str.{bytes_eq}
use Rattle.std.specs.Ordering.{eq_by_cmp}
use Rattle.std.proofs.Math.ListN.{get_or-map}
use Rattle.std.proofs.lemmas.List.{get_or-drop, drop-drop, take_more}
use Rattle.row_images.specs.declared.value.Value.{Value}
use Rattle.row_images.specs.declared.value.Value.TheVariants.{Null}
use Rattle.row_images.specs.Order.{value_cmp}
use Rattle.row_images.specs.Words.{first_word, others}
use Rattle.row_images.specs.Values.{value_text, value_of, is_null}
use Rattle.row_images.specs.Images.{AreValues, values_in}
use Rattle.row_images.specs.OnePass.{words_left}
use Rattle.row_images.proofs.ImageLaws.{texts, none_in_nothing}
use Rattle.row_images.proofs.PartLaws.{more_words, words_cut}
use Rattle.row_images.proofs.ValueLaws.{value_of-text}
use Rattle.row_images.proofs.RowLaws.{fits_at, words_same, null_word}

left_words : (m : Option (List ℕ)) → words_left m ≡ more_words m
left_words None = refl
left_words (Some t) = refl

-- the next word, and those after it
pub word_next : (left : Option (List ℕ)) (t w : List ℕ) → left ≡ Some t → w ≡ first_word t → w ≡ get_or (words_left left) 0 (value_text Null)
word_next left t w some is = is ∙ sym (ap (λ (ws : List (List ℕ)). get_or ws 0 (value_text Null)) (ap words_left some ∙ words_cut t))

pub rest_next : (left : Option (List ℕ)) (t : List ℕ) (rest : Option (List ℕ)) → left ≡ Some t → rest ≡ others t → words_left rest ≡ drop 1 (words_left left)
rest_next left t rest some is = ap words_left is ∙ left_words (others t) ∙ sym (ap (λ (ws : List (List ℕ)). drop 1 ws) (ap words_left some ∙ words_cut t))

-- the text of a row has all words left
pub no_texts : (t : List ℕ) → length t ≡ 0 → [] ≡ texts (values_in t)
no_texts [] none = sym (ap texts none_in_nothing)
no_texts (b ∷ bs) none = absurd (omega (arith, none))

-- ---- what a pass has left before the value at a place

abbrev pub IsLeft : List (List ℕ) → List Value → ℕ → Type 0
IsLeft left vs i = left ≡ drop i (texts vs)

first_left : (vs : List Value) (i : ℕ) (left : List (List ℕ)) → IsLeft left vs i → get_or left 0 (value_text Null) ≡ value_text (get_or vs i Null)
first_left vs i left is =
    ap (λ (ws : List (List ℕ)). get_or ws 0 (value_text Null)) is ∙ get_or-drop i (texts vs) 0 (value_text Null)
    ∙ ap (λ n. get_or (texts vs) n (value_text Null)) (add-zero i) ∙ get_or-map value_text vs i Null

-- one value further
pub left_on : (vs : List Value) (i : ℕ) (left on : List (List ℕ)) → IsLeft left vs i → on ≡ drop 1 left → IsLeft on vs (i + 1)
left_on vs i left on is e = e ∙ ap (λ (ws : List (List ℕ)). drop 1 ws) is ∙ drop-drop 1 i (texts vs)

-- ---- the word at a place

-- the word, the value that it is read as, and whether it is that of null
pub word_here : (vs : List Value) (i : ℕ) (left : List (List ℕ)) (w : List ℕ) → IsLeft left vs i → w ≡ get_or left 0 (value_text Null) → w ≡ value_text (get_or vs i Null)
word_here vs i left w is e = e ∙ first_left vs i left is

pub value_here : (vs : List Value) (i : ℕ) (w : List ℕ) (found : Option Value) → AreValues vs → w ≡ value_text (get_or vs i Null) → found ≡ value_of w → unwrap_or found Null ≡ get_or vs i Null
value_here vs i w found fits e is = ap (λ (o : Option Value). unwrap_or o Null) (is ∙ ap value_of e ∙ value_of-text (get_or vs i Null) (fits_at vs i fits))

pub null_here : (vs : List Value) (i : ℕ) (w : List ℕ) → AreValues vs → w ≡ value_text (get_or vs i Null) → bytes_eq w (codes "null") ≡ is_null (get_or vs i Null)
null_here vs i w fits e = ap (λ x. bytes_eq x (codes "null")) e ∙ null_word (get_or vs i Null) (fits_at vs i fits)

pub same_here : (us vs : List Value) (i : ℕ) (v w : List ℕ) → AreValues us → AreValues vs → v ≡ value_text (get_or us i Null) → w ≡ value_text (get_or vs i Null) → pointwise nat_eq v w ≡ eq_by_cmp value_cmp (get_or us i Null) (get_or vs i Null)
same_here us vs i v w here there d e =
    (λ k. pointwise nat_eq (d k) (e k)) ∙ words_same (get_or us i Null) (get_or vs i Null) (fits_at us i here) (fits_at vs i there)

-- ---- values, the first of which are read

pub read_on : (vs : List Value) (i : ℕ) (v : Value) (old new : List Value) → i < length vs → new ≡ old ++ v ∷ [] → old ≡ take i vs → v ≡ get_or vs i Null → new ≡ take (i + 1) vs
read_on vs i v old new lt pushed read here = pushed ∙ (λ k. read k ++ here k ∷ []) ∙ sym (take_more vs i Null lt)

-- ---- marks, the first of which are made

pub marks_on : (f : ℕ → Bool) (marks : List Bool) (i : ℕ) (b : Bool) → i < length marks → ((k : ℕ) → k < i → get_or marks k false ≡ f k) → b ≡ f i → (k : ℕ) → k < i + 1 → get_or (set marks i b) k false ≡ f k
marks_on f marks i b lt made here =
    below_more _ _
    (λ k h. let ne : k ≢ i = omega arith in rw get_or-set_other (made k h))
    (rw get_or-set_same here)
