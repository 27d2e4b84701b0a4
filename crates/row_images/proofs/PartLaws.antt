-- Parts of a text: joined they are the text again.
use Rattle.std.proofs.Common.{◌≡◌, ℕ, true, false, cond, eqb, List, [], ◌∷◌, ◌++◌, Option, Some, None, refl, sym, ap, ◌∙◌}
use Rattle.std.specs.List.{AllByRecursion}
use Rattle.std.proofs.lemmas.Bool.{eqb-true, eq-eqb}
use Rattle.row_images.specs.Words.{first_word, others}
use Rattle.row_images.specs.Parts.{before, behind, cons_head, parts_of, joined_by}
use Rattle.row_images.specs.Images.{words_of}
use Rattle.row_images.proofs.Counts.{lacks, lacks-parts}

-- ---- the first part, and those after it

abbrev pub more_parts : ℕ → Option (List ℕ) → List (List ℕ)
more_parts c None = []
more_parts c (Some r) = parts_of c r

pub parts_cut : (c : ℕ) (t : List ℕ) → parts_of c t ≡ before c t ∷ more_parts c (behind c t)
unfolding parts_of
parts_cut c [] = refl
parts_cut c (b ∷ bs) =
    elim (eqb b c) as (λ v. cond v ([] ∷ parts_of c bs) (cons_head b (parts_of c bs)) ≡ cond v [] (b ∷ before c bs) ∷ more_parts c (cond v (Some bs) (behind c bs))) [
      | true ↦ refl
      | false ↦ ap (cons_head b) (parts_cut c bs)
    ]

joined_head : (c b : ℕ) (ws : List (List ℕ)) → joined_by c (cons_head b ws) ≡ b ∷ joined_by c ws
joined_head c b [] = refl
joined_head c b (w ∷ []) = refl
joined_head c b (w ∷ x ∷ ws) = refl

joined_empty : (c : ℕ) (ws : List (List ℕ)) (w : List ℕ) (vs : List (List ℕ)) → ws ≡ w ∷ vs → joined_by c ([] ∷ ws) ≡ c ∷ joined_by c ws
joined_empty c ws w vs e = rw e refl

pub parts_joined : (c : ℕ) (t : List ℕ) → joined_by c (parts_of c t) ≡ t
unfolding parts_of
parts_joined c [] = refl
parts_joined c (b ∷ bs) =
    elim (eqb b c) as (λ v. eqb b c ≡ v → joined_by c (cond v ([] ∷ parts_of c bs) (cons_head b (parts_of c bs))) ≡ b ∷ bs) [
      | true ↦ λ e. joined_empty c (parts_of c bs) _ _ (parts_cut c bs) ∙ (λ i. sym (eqb-true b c e) i ∷ parts_joined c bs i)
      | false ↦ λ e. joined_head c b (parts_of c bs) ∙ ap (λ (t : List ℕ). b ∷ t) (parts_joined c bs)
    ] refl

pub parts_one : (c : ℕ) (w : List ℕ) → lacks c w ≡ true → parts_of c w ≡ w ∷ []
unfolding parts_of
parts_one c [] e = refl
parts_one c (b ∷ bs) e = let p = lacks-parts c b bs e in rw (p.0, parts_one c bs p.1) refl

pub parts_more : (c : ℕ) (w r : List ℕ) → lacks c w ≡ true → parts_of c (w ++ c ∷ r) ≡ w ∷ parts_of c r
unfolding parts_of
parts_more c [] r e = rw (eq-eqb c c refl) refl
parts_more c (b ∷ bs) r e = let p = lacks-parts c b bs e in rw (p.0, parts_more c bs r p.1) refl

abbrev pub AllLack : ℕ → List (List ℕ) → Type 0
AllLack c ws = AllByRecursion (λ w. lacks c w ≡ true) ws

pub parts_again : (c : ℕ) (w : List ℕ) (ws : List (List ℕ)) → AllLack c (w ∷ ws) → parts_of c (joined_by c (w ∷ ws)) ≡ w ∷ ws
parts_again c w [] h = parts_one c w h.0
parts_again c w (x ∷ ws) h = parts_more c w (joined_by c (x ∷ ws)) h.0 ∙ ap (λ (t : List (List ℕ)). w ∷ t) (parts_again c x ws h.1)

-- ---- words

abbrev pub more_words : Option (List ℕ) → List (List ℕ)
more_words rest = more_parts 32 rest

-- the words of a text are its first word and those after it
pub words_cut : (t : List ℕ) → words_of t ≡ first_word t ∷ more_words (others t)
unfolding parts_of
words_cut [] = refl
words_cut (b ∷ bs) =
    elim (eqb b 32) as (λ v. cond v ([] ∷ words_of bs) (cons_head b (words_of bs)) ≡ cond v [] (b ∷ first_word bs) ∷ more_words (cond v (Some bs) (others bs))) [
      | true ↦ refl
      | false ↦ ap (cons_head b) (words_cut bs)
    ]
