-- Lines that begin with a word: reading is sound, and the cause of what is not taken.
use Rattle.std.proofs.Common.{◌≡◌, ℕ, Bool, true, false, cond, List, [], ◌∷◌, ◌++◌, Option, Some, None, Result, Ok, Err, refl, sym, ap, ◌∙◌, inl, inr}
use Rattle.std.specs.Prelude.{MatchResult}
use Rattle.std.specs.Str.{bytes_eq}
use Rattle.std.proofs.lemmas.Option.{same_Some}
use Rattle.std.proofs.lemmas.Result.{MatchResult-weaker}
use Rattle.std.proofs.lemmas.Slice.Eq.{bytes_eq-Decides}
use Rattle.gtid_text.proofs.Turns.{chosen}
use Rattle.row_images.specs.Words.{is_count, first_word, others}
use Rattle.row_images.proofs.Counts.{word_and_more}
use Rattle.txn_journal.specs.Lines.{◌>>=◌, due}
use Rattle.txn_journal.specs.Wordings.{Wording, ParsesAsLine, ParsesAsNoLine, HasCauseBy}
use Rattle.txn_journal.specs.declared.fault.Cause.{Cause}
use Rattle.txn_journal.specs.declared.fault.Cause.TheVariants as causes
use Rattle.txn_journal.proofs.Judged.{then_both, IsBody}

-- the first of these words
abbrev pub word_among : {W : Type 0} → (W → List ℕ) → List W → List ℕ → Option W
word_among text [] w = None
word_among text (k ∷ ks) w = cond (bytes_eq w (text k)) (Some k) (word_among text ks w)

pub among_found : {W : Type 0} (text : W → List ℕ) (ks : List W) (w : List ℕ) (k : W) → word_among text ks w ≡ Some k → w ≡ text k
among_found text [] w k e = absurd cc
among_found text (j ∷ js) w k e = elim (chosen (bytes_eq w (text j)) (Some j) (word_among text js w) (Some k) e) [
  | inl p ↦ (bytes_eq-Decides w (text j)).0 p.0 ∙ ap text (same_Some j k p.1)
  | inr p ↦ among_found text js w k p.1
]

-- it is not in the grammar, or it is a count that is no version known
abbrev pub IsVersionFault : Option (List ℕ) → Cause → Type 0
IsVersionFault rest causes.Body = Unit {0}
IsVersionFault rest causes.Version = (n : List ℕ) × (rest ≡ Some n) × (is_count n ≡ true)
IsVersionFault rest _ = ⊥

-- why the rest of a line parses as nothing
abbrev pub IsRestFault : (w : Wording) → w.Word → Option (List ℕ) → Cause → Type 0
IsRestFault w k rest causes.Body = Unit {0}
IsRestFault w k rest causes.Version = (k ≡ w.header) × IsVersionFault rest causes.Version
IsRestFault w k rest _ = ⊥

-- what a word and the rest of its line parse as
pub record ParsesAs (w : Wording) (k : w.Word) (line : List ℕ) (l : w.Line) : Type 0 where
  pub text : line ≡ w.line_text l
  pub fits : w.Fits l
  pub word : w.word l ≡ k

abbrev pub Rests : Wording → Type 0
Rests w = w.Word → Option (List ℕ) → Result w.Line Cause

-- what a line parses as, by the rest that follows its word
abbrev pub read_by : (w : Wording) → Rests w → List ℕ → Result w.Line Cause
read_by w rest line = due w.is_due (w.word_of (first_word line)) >>= λ k. rest k (others line)

pub read_at : (w : Wording) (rest : Rests w) (line : List ℕ) (k : w.Word) (r : Option (List ℕ)) → first_word line ≡ w.word_text k → others line ≡ r → w.word_of (w.word_text k) ≡ Some k → w.is_due k ≡ true → read_by w rest line ≡ rest k r
read_at w rest line k r first more word is = rw (first, more, word, is) refl

pub record RestLaws (w : Wording) (rest : Rests w) : Type 0 where
  pub found : (t : List ℕ) (k : w.Word) → w.word_of t ≡ Some k → t ≡ w.word_text k
  pub reads : (k : w.Word) (line : List ℕ) → first_word line ≡ w.word_text k → MatchResult (rest k (others line)) (ParsesAs w k line) (IsRestFault w k (others line))
  pub again : (l : w.Line) → w.is_due (w.word l) ≡ true → w.Fits l → read_by w rest (w.line_text l) ≡ Ok l

-- a word whose rest has no version
pub of_body : (w : Wording) (k : w.Word) (o : Option (List ℕ)) (P : w.Line → Type 0) (r : Result w.Line Cause) → MatchResult r P IsBody → MatchResult r P (IsRestFault w k o)
of_body w k o P (Ok l) h = h
of_body w k o P (Err causes.Body) h = tt
of_body w k o P (Err c) h = absurd h

pub of_header : (w : Wording) (o : Option (List ℕ)) (P : w.Line → Type 0) (r : Result w.Line Cause) → MatchResult r P (IsVersionFault o) → MatchResult r P (IsRestFault w w.header o)
of_header w o P (Ok l) h = h
of_header w o P (Err causes.Body) h = tt
of_header w o P (Err causes.Version) h = (refl, h)
of_header w o P (Err c) h = absurd h

module _ (w : Wording) (rest : Rests w) (laws : RestLaws w rest) where
  -- the cause, where the line parses as nothing
  rest_cause : (line : List ℕ) (k : w.Word) → w.word_of (first_word line) ≡ Some k → w.is_due k ≡ true → (c : Cause) → IsRestFault w k (others line) c → ParsesAsNoLine w line → HasCauseBy w line c
  rest_cause line k word is causes.Body h none = (k, word, is, none)
  rest_cause line k word is causes.Version h none =
      let header : first_word line ≡ w.word_text w.header = laws.found (first_word line) k word ∙ ap w.word_text h.0 in
      (h.1.0, word_and_more line h.1.0 h.1.1 ∙ ap (λ (x : List ℕ). x ++ 32 ∷ h.1.0) header, h.1.2, ap w.is_due (sym h.0) ∙ is, none)
  rest_cause line k word is c h none = absurd h

  on_due : (line : List ℕ) (k : w.Word) (is : Bool) → w.word_of (first_word line) ≡ Some k → w.is_due k ≡ is → MatchResult (cond is (Ok k) (Err causes.Keyword) >>= λ k. rest k (others line)) (ParsesAsLine w line) (λ c. ParsesAsNoLine w line → HasCauseBy w line c)
  on_due line k true e is = MatchResult-weaker (rest k (others line)) (laws.reads k line (laws.found (first_word line) k e)) (λ l s. record { text = s.text; fits = s.fits; due = ap w.is_due s.word ∙ is }) (rest_cause line k e is)
  on_due line k false e is = λ none j h d. absurd (let same = ap w.is_due (same_Some k j (sym e ∙ h)) in cc)

  by_word : (line : List ℕ) (o : Option w.Word) → w.word_of (first_word line) ≡ o → MatchResult (due w.is_due o >>= λ k. rest k (others line)) (ParsesAsLine w line) (λ c. ParsesAsNoLine w line → HasCauseBy w line c)
  by_word line None e = λ none k h d. absurd (let m = sym e ∙ h in cc)
  by_word line (Some k) e = on_due line k (w.is_due k) e refl

  settled : (line : List ℕ) (r : Result w.Line Cause) → read_by w rest line ≡ r → MatchResult r (ParsesAsLine w line) (λ c. ParsesAsNoLine w line → HasCauseBy w line c) → MatchResult r (ParsesAsLine w line) (HasCauseBy w line)
  settled line (Ok l) e h = h
  settled line (Err c) e h = h (λ l s. absurd (let k = sym e ∙ ap (read_by w rest) s.text ∙ laws.again l s.due s.fits in cc))

  pub read_both : (line : List ℕ) → MatchResult (read_by w rest line) (ParsesAsLine w line) (HasCauseBy w line)
  read_both line = settled line (read_by w rest line) refl (by_word line (w.word_of (first_word line)) refl)

  -- a line is read, and then it acts
  pub judged_both : {S : Type 0} (P : S → Type 0) (put : w.Line → Result S Cause) (line : List ℕ) → ((l : w.Line) → ParsesAsLine w line l → MatchResult (put l) P (HasCauseBy w line)) → MatchResult (read_by w rest line >>= put) P (HasCauseBy w line)
  judged_both P put line more = then_both P (HasCauseBy w line) (read_by w rest line) put (read_both line) more

  pub judged_again : {S : Type 0} (put : w.Line → Result S Cause) (l : w.Line) → w.is_due (w.word l) ≡ true → w.Fits l → (read_by w rest (w.line_text l) >>= put) ≡ put l
  judged_again put l is fits = ap (λ (r : Result w.Line Cause). r >>= put) (laws.again l is fits)
