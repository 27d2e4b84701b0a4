-- The line of a place is read exactly where it is one.
use Rattle.std.proofs.Common.{◌≡◌, ℕ, Bool, true, false, not, cond, List, [], ◌∷◌, ◌++◌, Option, Some, None, Result, Ok, Err, refl, sym, ap, ◌∙◌}
use Rattle.std.specs.Prelude.{◌&&◌, ◌||◌, MatchResult, codes}
use Rattle.std.proofs.lemmas.Bool.{and_parts, or_parts}
use Rattle.std.proofs.lemmas.Slice.Eq.{bytes_eq-Decides}
use Rattle.rows.specs.Names.{is_name}
use Rattle.rows.specs.declared.limits.Limits.TheVariants.{Wide}
use Rattle.row_images.specs.Words.{is_count, first_word, others}
use Rattle.row_images.proofs.Counts.{lacks, first_word-front, others-front, word_and_more}
use Rattle.txn_journal.specs.Lines.{◌>>=◌, some_or_body}
use Rattle.txn_journal.specs.Places.{LogPlace, place_text, is_unknown, is_place_words, is_within_limits, IsLogPlace, is_place_line, allowed_place, place_in, HasPlaceCause}
use Rattle.txn_journal.specs.declared.fault.Cause.{Cause}
use Rattle.txn_journal.specs.declared.fault.Cause.TheVariants as causes
use Rattle.txn_journal.proofs.Judged.{then_both, some_both, known_both}
use Rattle.txn_journal.proofs.NameLemmas.{name_no_blank}
use Rattle.txn_journal.proofs.SplitLaws.{count_no_blank}

-- ---- its text is read again

time_no_blank : (w : List ℕ) (a b : Bool) → is_unknown w ≡ a → is_count w ≡ b → (a || b) ≡ true → lacks 32 w ≡ true
time_no_blank w true b unknown count e = ap (lacks 32) ((bytes_eq-Decides w (codes "-")).0 unknown)
time_no_blank w false b unknown count e = count_no_blank w (count ∙ e)

record PartsLack (p : LogPlace) : Type 0 where
  file : lacks 32 p.file ≡ true
  position : lacks 32 p.position ≡ true
  time : lacks 32 p.time ≡ true

parts_lack : (p : LogPlace) → is_place_words p ≡ true → PartsLack p
parts_lack p is =
    let a = and_parts (is_name p.file) _ is in
    let b = and_parts (is_count p.position) _ a.1 in
    let c = and_parts (is_unknown p.time || is_count p.time) (is_count p.server) b.1 in
    record { file = name_no_blank Wide p.file a.0; position = count_no_blank p.position b.0; time = time_no_blank p.time (is_unknown p.time) (is_count p.time) refl refl c.0 }

place_reads : (p : LogPlace) → is_place_words p ≡ true → place_in (others (place_text p)) ≡ allowed_place p
unfolding place_in
place_reads p is =
    let k = parts_lack p is in
    let behind_time : List ℕ = p.time ++ 32 ∷ p.server in
    let behind_position : List ℕ = p.position ++ 32 ∷ behind_time in
    rw (others-front p.file behind_position k.file, first_word-front p.file behind_position k.file, others-front p.position behind_time k.position, first_word-front p.position behind_time k.position, others-front p.time p.server k.time, first_word-front p.time p.server k.time) refl

pub place_again : (p : LogPlace) → IsLogPlace p → place_in (others (place_text p)) ≡ Ok p
place_again p h = place_reads p h.place ∙ rw (h.place, h.within) refl

-- ---- what is read is its text, or else why not

-- not in the grammar, or a number too large
abbrev HasFault : List ℕ → Cause → Type 0
HasFault line causes.Body = Unit {0}
HasFault line causes.Limit = (p : LogPlace) × (line ≡ place_text p) × (is_place_words p ≡ true) × (is_within_limits p ≡ false)
HasFault line _ = ⊥

abbrev IsText : List ℕ → LogPlace → Type 0
IsText line p = (line ≡ place_text p) × IsLogPlace p

allowed_both : (line : List ℕ) (p : LogPlace) → line ≡ place_text p → MatchResult (allowed_place p) (IsText line) (HasFault line)
allowed_both line p text = elim (is_place_words p) as (λ v. is_place_words p ≡ v → MatchResult (cond (not v) (Err causes.Body) (cond (not (is_within_limits p)) (Err causes.Limit) (Ok p))) (IsText line) (HasFault line)) [
  | false ↦ λ none. tt
  | true ↦ λ is. elim (is_within_limits p) as (λ w. is_within_limits p ≡ w → MatchResult (cond (not w) (Err causes.Limit) (Ok p)) (IsText line) (HasFault line)) [
    | false ↦ λ far. (p, text, is, far)
    | true ↦ λ within. (text, record { place = is; within = within })
  ] refl
] refl

first_read : (line : List ℕ) → first_word line ≡ codes "place" → MatchResult (place_in (others line)) (IsText line) (HasFault line)
unfolding place_in
first_read line word =
    then_both (IsText line) (HasFault line) (some_or_body (others line)) _ (some_both (λ text. others line ≡ Some text) (HasFault line) (others line) (λ x e. e) tt) (λ text a.
    then_both (IsText line) (HasFault line) (some_or_body (others text)) _ (some_both (λ position. others text ≡ Some position) (HasFault line) (others text) (λ x e. e) tt) (λ position b.
    then_both (IsText line) (HasFault line) (some_or_body (others position)) _ (some_both (λ time. others position ≡ Some time) (HasFault line) (others position) (λ x e. e) tt) (λ time c.
    then_both (IsText line) (HasFault line) (some_or_body (others time)) _ (some_both (λ server. others time ≡ Some server) (HasFault line) (others time) (λ x e. e) tt) (λ server d.
    allowed_both line (record { file = first_word text; position = first_word position; time = first_word time; server = server }) (
    word_and_more line text a ∙ ap (λ (w : List ℕ). w ++ 32 ∷ text) word
    ∙ ap (λ (t : List ℕ). codes "place" ++ 32 ∷ t) (word_and_more text position b
    ∙ ap (λ (t : List ℕ). first_word text ++ 32 ∷ t) (word_and_more position time c
    ∙ ap (λ (t : List ℕ). first_word position ++ 32 ∷ t) (word_and_more time server d)))
    )))))

-- a line in the grammar isn't refused for its words
not_body : (line : List ℕ) (p : LogPlace) → place_in (others line) ≡ Err causes.Body → line ≡ place_text p → is_place_words p ≡ true → ⊥
not_body line p e text is = elim (is_within_limits p) as (λ w. cond (not w) (Err causes.Limit) (Ok p) ≡ Err causes.Body → ⊥) [ true ↦ λ k. cc | false ↦ λ k. cc ] (sym whole ∙ e)
  where
    whole : place_in (others line) ≡ cond (not (is_within_limits p)) (Err causes.Limit) (Ok p)
    whole = ap (λ (l : List ℕ). place_in (others l)) text ∙ place_reads p is ∙ ap (λ (v : Bool). cond (not v) (Err causes.Body) (cond (not (is_within_limits p)) (Err causes.Limit) (Ok p))) is

settled : (line : List ℕ) (r : Result LogPlace Cause) → place_in (others line) ≡ r → MatchResult r (IsText line) (HasFault line) → MatchResult r (IsText line) (HasPlaceCause line)
settled line (Ok p) e h = h
settled line (Err causes.Body) e h = λ p text is. not_body line p e text is
settled line (Err causes.Limit) e h = h
settled line (Err c) e h = absurd h

pub place_both : (line : List ℕ) → is_place_line line ≡ true → MatchResult (place_in (others line)) (λ p. (line ≡ place_text p) × IsLogPlace p) (HasPlaceCause line)
place_both line is = settled line (place_in (others line)) refl (first_read line ((bytes_eq-Decides (first_word line) (codes "place")).0 is))
