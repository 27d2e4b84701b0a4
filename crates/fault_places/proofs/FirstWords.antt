-- The first words of a text, byte by byte.
use Rattle.std.proofs.Common.{◌≡◌, ◌≢◌, ℕ, zero, suc, ◌+◌, ◌-◌, ◌<◌, ◌≤◌, Bool, true, false, cond, List, [], ◌∷◌, ◌++◌, length, take, drop, get_or, refl, sym, ap, ◌∙◌, append_assoc, arith, drop-cons, add-one}
use Rattle.std.specs.Prelude.{◌==◌}
use Rattle.std.specs.List.{flat_map, slice_split, onto_first, join_with_byte}
use Rattle.std.proofs.lemmas.List.{take_more, length-take}
use Rattle.std.proofs.lemmas.Grind.{flat_map-append}
use Rattle.std.proofs.lemmas.Bool.Decides.{nat_tests}
use Rattle.fault_places.specs.HiddenValues.{first_words}

abbrev words_of : List ℕ → List (List ℕ)
words_of text = slice_split (λ b. b == 32) text

-- there is a first word
some_word : (P : List (List ℕ) → Type 0) (text : List ℕ) → ((w : List ℕ) (ws : List (List ℕ)) → P (w ∷ ws)) → P (words_of text)
some_word P [] h = h [] []
some_word P (b ∷ bs) h = by (b == 32) (words_of bs)
  where
    by : (c : Bool) (ws : List (List ℕ)) → P (cond c ([] ∷ ws) (onto_first b ws))
    by true ws = h [] ws
    by false [] = h (b ∷ []) []
    by false (w ∷ ws) = h (b ∷ w) ws

abbrev joined : ℕ → List (List ℕ) → List ℕ
joined k ws = join_with_byte 32 (take k ws)

-- of several words that are left one ends at a blank
blank : (k b : ℕ) (bs : List ℕ) → b ≡ 32 → first_words (suc (suc k)) (b ∷ bs) ≡ b ∷ first_words (suc k) bs
blank k b bs is =
    ap (λ (c : ℕ). first_words (suc (suc k)) (c ∷ bs)) is
    ∙ some_word (λ ws. joined (suc (suc k)) ([] ∷ ws) ≡ 32 ∷ joined (suc k) ws) bs (λ w ws. refl)
    ∙ ap (λ (c : ℕ). c ∷ first_words (suc k) bs) (sym is)

-- each other byte is one of the word
other : (k b : ℕ) (bs : List ℕ) → (b == 32) ≡ false → first_words (suc k) (b ∷ bs) ≡ b ∷ first_words (suc k) bs
other k b bs is =
    ap (λ (c : Bool). joined (suc k) (cond c ([] ∷ words_of bs) (onto_first b (words_of bs)))) is
    ∙ some_word (λ ws. joined (suc k) (onto_first b ws) ≡ b ∷ joined (suc k) ws) bs (λ w ws. longer k w ws)
  where
    longer : (k : ℕ) (w : List ℕ) (ws : List (List ℕ)) → joined (suc k) ((b ∷ w) ∷ ws) ≡ b ∷ joined (suc k) (w ∷ ws)
    longer zero w ws = refl
    longer (suc k) w [] = refl
    longer (suc k) w (x ∷ xs) = refl

pub no_words : (k : ℕ) → first_words k [] ≡ []
no_words zero = refl
no_words (suc zero) = refl
no_words (suc (suc k)) = refl

-- the first bytes of a text have the first bytes of its words
pub words_of_front : (n k : ℕ) (text : List ℕ) → first_words k (take n text) ≡ take n (first_words k text)
words_of_front zero k text = no_words k
words_of_front (suc n) k [] = no_words k ∙ ap (λ (t : List ℕ). take (suc n) t) (sym (no_words k))
words_of_front (suc n) zero (b ∷ bs) = refl
words_of_front (suc n) (suc k) (b ∷ bs) = by k (b == 32) refl (words_of_front n k bs) (words_of_front n (suc k) bs)
  where
    longer : (k next : ℕ) → first_words k (b ∷ take n bs) ≡ b ∷ first_words next (take n bs) → first_words k (b ∷ bs) ≡ b ∷ first_words next bs
        → first_words next (take n bs) ≡ take n (first_words next bs) → first_words k (b ∷ take n bs) ≡ take (suc n) (first_words k (b ∷ bs))
    longer k next front whole same = front ∙ ap (λ (t : List ℕ). b ∷ t) same ∙ ap (λ (t : List ℕ). take (suc n) t) (sym whole)

    is_blank : (b == 32) ≡ true → b ≡ 32
    is_blank is = grind (arith, nat_tests, is)

    by : (k : ℕ) (c : Bool) → (b == 32) ≡ c → first_words k (take n bs) ≡ take n (first_words k bs) → first_words (suc k) (take n bs) ≡ take n (first_words (suc k) bs)
        → first_words (suc k) (b ∷ take n bs) ≡ take (suc n) (first_words (suc k) (b ∷ bs))
    by zero true is fewer same =
        let e = is_blank is in
        ap (λ (c : ℕ). first_words 1 (c ∷ take n bs)) e ∙ ap (λ (c : ℕ). take (suc n) (first_words 1 (c ∷ bs))) (sym e)
    by (suc k) true is fewer same = let e = is_blank is in longer (suc (suc k)) (suc k) (blank k b (take n bs) e) (blank k b bs e) fewer
    by k false is fewer same = longer (suc k) (suc k) (other k b (take n bs) is) (other k b bs is) same

-- a text in two parts, of which one byte goes over
module _ (text end : List ℕ) (i : ℕ) (lt : i < length text) where
  over : (left : ℕ) (more : List ℕ) → first_words left (get_or text i 0 ∷ drop (i + 1) text) ≡ get_or text i 0 ∷ more
      → take i text ++ first_words left (drop i text) ≡ end → take (i + 1) text ++ more ≡ end
  over left more step h =
      ap (λ (t : List ℕ). t ++ more) (take_more text i 0 lt) ∙ append_assoc (take i text) (get_or text i 0 ∷ []) more
      ∙ ap (λ (t : List ℕ). take i text ++ t) (sym step)
      ∙ ap (λ (n : ℕ). take i text ++ first_words left (get_or text i 0 ∷ drop n text)) (add-one i)
      ∙ ap (λ (t : List ℕ). take i text ++ first_words left t) (sym (drop-cons text i 0 lt)) ∙ h

  -- behind a blank there is one word less
  pub words_go_on : (left next : ℕ) → 1 < left → next ≡ left - 1 → get_or text i 0 ≡ 32 → take i text ++ first_words left (drop i text) ≡ end
      → take (i + 1) text ++ first_words next (drop (i + 1) text) ≡ end
  words_go_on zero next some less is h = absurd (omega (arith, some))
  words_go_on (suc zero) next some less is h = absurd (omega (arith, some))
  words_go_on (suc (suc k)) next some less is h =
      ap (λ (n : ℕ). take (i + 1) text ++ first_words n (drop (i + 1) text)) (let e : next ≡ suc k = omega (arith, less) in e)
      ∙ over (suc (suc k)) (first_words (suc k) (drop (i + 1) text)) (blank k (get_or text i 0) (drop (i + 1) text) is) h

  -- the word goes on
  pub word_goes_on : (left next : ℕ) → 1 ≤ left → next ≡ left → get_or text i 0 ≢ 32 → take i text ++ first_words left (drop i text) ≡ end
      → take (i + 1) text ++ first_words next (drop (i + 1) text) ≡ end
  word_goes_on zero next some same not h = absurd (omega (arith, some))
  word_goes_on (suc k) next some same not h =
      ap (λ (n : ℕ). take (i + 1) text ++ first_words n (drop (i + 1) text)) same
      ∙ over (suc k) (first_words (suc k) (drop (i + 1) text)) (other k (get_or text i 0) (drop (i + 1) text) (grind (arith, nat_tests))) h

-- ---- the first bytes of a text in two parts

take_parts : (n : ℕ) (a b : List ℕ) → take n (a ++ b) ≡ take n a ++ take (n - length a) b
take_parts zero [] b = refl
take_parts (suc n) [] b = ap (λ (m : ℕ). take m b) (let e : suc n ≡ suc n - 0 = omega arith in e)
take_parts zero (x ∷ a) b = ap (λ (m : ℕ). take m b) (let e : 0 ≡ 0 - length (x ∷ a) = omega arith in e)
take_parts (suc n) (x ∷ a) b =
    ap (λ (t : List ℕ). x ∷ t) (take_parts n a b)
    ∙ ap (λ (m : ℕ). x ∷ (take n a ++ take m b)) (let e : n - length a ≡ suc n - length (x ∷ a) = omega arith in e)

pub rest_of : (n : ℕ) (a : List ℕ) → n - length (take n a) ≡ n - length a
rest_of n a = let k = length-take n a in omega (arith, k)

-- both parts were appended
pub in_parts : (f : ℕ → List ℕ) (n m : ℕ) (a b whole out next end : List ℕ) → whole ≡ a ++ b → m ≡ n - length (take n a) → next ≡ out ++ flat_map f (take n a)
    → end ≡ next ++ flat_map f (take m b) → end ≡ out ++ flat_map f (take n whole)
in_parts f n m a b whole out next end parts less first second =
    second ∙ ap (λ (t : List ℕ). t ++ flat_map f (take m b)) first ∙ append_assoc out (flat_map f (take n a)) (flat_map f (take m b))
    ∙ ap (λ (k : ℕ). out ++ (flat_map f (take n a) ++ flat_map f (take k b))) (less ∙ rest_of n a)
    ∙ ap (λ (t : List ℕ). out ++ t) (sym (flat_map-append f (take n a) (take (n - length a) b)))
    ∙ ap (λ (t : List ℕ). out ++ flat_map f t) (sym (take_parts n a b))
    ∙ ap (λ (t : List ℕ). out ++ flat_map f (take n t)) (sym parts)
