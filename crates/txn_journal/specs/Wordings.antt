-- Lines that begin with a word, and what is wrong with one that is not taken.
use Rattle.std.specs.Prelude.{◌≡◌, ℕ, Bool, true, List, ◌∷◌, ◌++◌, Option, Some}
use Rattle.gtid_text.specs.declared.Gtid.{Gtid}
use Rattle.row_images.specs.Words.{is_count, first_word}
use Rattle.txn_journal.specs.declared.fault.Cause.{Cause}
use Rattle.txn_journal.specs.declared.fault.Cause.TheVariants as causes

-- The lines that may come next.
pub record Wording : Type 1 where
  pub Word : Type 0
  pub Line : Type 0
  pub word_of : List ℕ → Option Word
  -- a line of this word is due
  pub is_due : Word → Bool
  -- the word before a version
  pub header : Word
  pub word_text : Word → List ℕ
  pub line_text : Line → List ℕ
  -- the first word of a line
  pub word : Line → Word
  -- its other words are those of such a line, and may be there
  pub Fits : Line → Type 0
  pub PassesLimit : Line → Type 0
  -- the lines before, or the schema, do not allow it
  pub Clashes : Line → Type 0
  -- its numbers are not those of its place
  pub IsMisnumbered : Line → Type 0
  -- it has this GTID, which came before
  pub IsTwice : Line → Gtid → Type 0

-- the line is the text of l, which is due there
pub record ParsesAsLine (w : Wording) (line : List ℕ) (l : w.Line) : Type 0 where
  pub text : line ≡ w.line_text l
  pub fits : w.Fits l
  pub due : w.is_due (w.word l) ≡ true

-- it parses as no line that is due there
abbrev pub ParsesAsNoLine : (w : Wording) → List ℕ → Type 0
ParsesAsNoLine w line = (l : w.Line) → ParsesAsLine w line l → ⊥

abbrev pub HasCauseBy : (w : Wording) → List ℕ → Cause → Type 0
-- the first word is none of those due there
HasCauseBy w line causes.Keyword = (k : w.Word) → w.word_of (first_word line) ≡ Some k → w.is_due k ≡ true → ⊥
-- a header is due and is there, with a count that is no version known there
HasCauseBy w line causes.Version = (n : List ℕ) × (line ≡ w.word_text w.header ++ 32 ∷ n) × (is_count n ≡ true) × (w.is_due w.header ≡ true) × ParsesAsNoLine w line
-- a word is due and comes first, and the line parses as nothing
HasCauseBy w line causes.Body = (k : w.Word) × (w.word_of (first_word line) ≡ Some k) × (w.is_due k ≡ true) × ParsesAsNoLine w line
HasCauseBy w line causes.Limit = (l : w.Line) × ParsesAsLine w line l × w.PassesLimit l
HasCauseBy w line causes.Schema = (l : w.Line) × ParsesAsLine w line l × (w.PassesLimit l → ⊥) × w.Clashes l
HasCauseBy w line causes.Stamp = (l : w.Line) × ParsesAsLine w line l × (w.PassesLimit l → ⊥) × w.IsMisnumbered l
HasCauseBy w line (causes.Twice g) = (l : w.Line) × ParsesAsLine w line l × (w.PassesLimit l → ⊥) × (w.IsMisnumbered l → ⊥) × w.IsTwice l g
