-- The UUIDs of a line, word by word.
use Rattle.std.proofs.Common.{◌≡◌, ℕ, List, [], ◌∷◌, ◌++◌, Option, Some, None, refl, sym, ap, ◌∙◌, append_assoc}
use Rattle.std.specs.Prelude.{option_map, option_and_then}
use Rattle.row_images.specs.Words.{first_word, others}
use Rattle.journal_words.specs.Gtids.{source_of_word}
use Rattle.row_images.specs.Images.{words_of}
use Rattle.row_images.proofs.PartLaws.{more_words, words_cut}
use Rattle.replica_script.specs.Declarations.{sources_of}

-- what was read, and then more
abbrev pub behind : List ℕ → Option (List ℕ) → Option (List ℕ)
behind ids more = option_map (λ (us : List ℕ). ids ++ us) more

behind_next : (ids : List ℕ) (own : ℕ) (o : Option (List ℕ)) → behind ids (option_map (λ (us : List ℕ). own ∷ us) o) ≡ behind (ids ++ own ∷ []) o
behind_next ids own None = refl
behind_next ids own (Some us) = ap (λ (us : List ℕ). Some us) (sym (append_assoc ids (own ∷ []) us))

-- one word, and the UUIDs after it
abbrev source_step : Option ℕ → Option (List ℕ) → Option (List ℕ)
source_step own m = option_and_then (λ id. option_map (λ ids. id ∷ ids) (sources_of (more_words m))) own

source_steps : (left w : List ℕ) (m : Option (List ℕ)) → w ≡ first_word left → m ≡ others left → sources_of (words_of left) ≡ source_step (source_of_word w) m
source_steps left w m first rest = ap sources_of (words_cut left ∙ sym (λ i. first i ∷ more_words (rest i)))

-- no UUID
pub no_source : (ids left w : List ℕ) (m : Option (List ℕ)) → w ≡ first_word left → m ≡ others left → source_of_word w ≡ None → behind ids (sources_of (words_of left)) ≡ None
no_source ids left w m first rest none = ap (behind ids) (source_steps left w m first rest ∙ ap (λ (own : Option ℕ). source_step own m) none)

-- the last
pub last_source : (ids left w : List ℕ) (m : Option (List ℕ)) (own : ℕ) → w ≡ first_word left → m ≡ others left → source_of_word w ≡ Some own → m ≡ None → behind ids (sources_of (words_of left)) ≡ Some (ids ++ own ∷ [])
last_source ids left w m own first rest found none =
    ap (behind ids) (source_steps left w m first rest ∙ (λ i. source_step (found i) (none i)))

-- one before others
pub next_source : (ids left w r : List ℕ) (m : Option (List ℕ)) (own : ℕ) → w ≡ first_word left → m ≡ others left → source_of_word w ≡ Some own → m ≡ Some r → behind ids (sources_of (words_of left)) ≡ behind (ids ++ own ∷ []) (sources_of (words_of r))
next_source ids left w r m own first rest found more =
    ap (behind ids) (source_steps left w m first rest ∙ (λ i. source_step (found i) (more i))) ∙ behind_next ids own (sources_of (words_of r))
