-- A script from its input to its output: the lines of the input are answered one after another, and the answers are written.
use Rattle.std.specs.Prelude.{◌≡◌, ℕ, ◌<◌, ◌+◌, List, [], ◌∷◌, ◌++◌, take, length, Bool, true, false, Option, Some, None, Result, Ok, Err, MatchResult, ◌⊎◌}
use Rattle.std.specs.Io.KnownBytes.{Appends, Keeps}
use Rattle.std.specs.Io.BufRead.{first_piece, drop_through}
use Rattle.replica_script.specs.declared.answer.Asking.{Asking}
use Rattle.replica_script.specs.declared.answer.Stop.{Stop}
use Rattle.replica_script.specs.declared.answer.Stop.TheVariants as stop
use Rattle.replica_script.specs.declared.edge.ScriptLine.{ScriptLine}
use Rattle.replica_script.specs.declared.edge.ScriptFault.{ScriptFault}
use Rattle.replica_script.specs.declared.edge.ScriptFault.TheVariants.{BadLine, CutShort, Memory, Changed, Read, Write}
use Rattle.replica_script.specs.declared.script.Script.{Script}
use Rattle.replica_script.specs.Scripts.{fault_at_end}
use Rattle.replica_script.specs.Told.{IsStart, IsTold, IsStoppedBy, script_end}

-- ---- lines

-- the first line of a text, without its line feed, which the last line of a text may lack
abbrev pub first_line : List ℕ → List ℕ
first_line text = first_piece 10 text

-- what is behind the first line
abbrev pub behind_line : List ℕ → List ℕ
behind_line text = drop_through 10 text

-- the text has a line, and this is what is behind it
abbrev pub HasLine : List ℕ → List ℕ → Type 0
HasLine text line = (0 < length text) × (line ≡ first_line text)

-- these are the first lines of a text, and this is what is behind them
abbrev pub AreFirstLines : List (List ℕ) → List ℕ → List ℕ → Type 0
AreFirstLines [] text behind = behind ≡ text
AreFirstLines (line ∷ lines) text behind = HasLine text line × AreFirstLines lines (behind_line text) behind

-- the first line was read of a text, and what is behind it is left; or the text was at its end
abbrev pub IsRead : List ℕ → Option (List ℕ) → Option (List ℕ) → Type 0
IsRead text left None = text ≡ []
IsRead text left (Some line) = HasLine text line × (left ≡ Some (behind_line text))

-- ---- writing

-- a prefix of a text was written
abbrev pub IsCutShort : Option (List ℕ) → Option (List ℕ) → List ℕ → Type 0
IsCutShort old new text = (n : ℕ) × Appends old new (take n text)

-- a line was answered, and the answer was written
abbrev pub IsWritten : {S : Type 0} → (S → List ℕ → List ℕ → S → Type 0) → S → List ℕ → S → Option (List ℕ) → Option (List ℕ) → Type 0
IsWritten answers before line after old new = (text : List ℕ) × answers before line text after × Appends old new text

-- a line was answered, and a prefix of the answer was written
abbrev pub IsHalfWritten : {S : Type 0} → (S → List ℕ → List ℕ → S → Type 0) → S → List ℕ → Option (List ℕ) → Option (List ℕ) → Type 0
IsHalfWritten {S} answers before line old new = (text : List ℕ) × (after : S) × answers before line text after × IsCutShort old new text

-- Why a line was not answered: it has no answer, and nothing was written; or writing the answer failed.
abbrev pub IsLineFault : {S : Type 0} → (S → List ℕ → List ℕ → S → Type 0) → (S → List ℕ → Stop → Type 0) → S → ScriptLine → Option (List ℕ) → Option (List ℕ) → ScriptFault → Type 0
IsLineFault answers stops before line old new (BadLine bad) = (bad ≡ line) × stops before line.text.items stop.BadLine × Keeps old new
IsLineFault answers stops before line old new Memory = stops before line.text.items stop.Memory × Keeps old new
IsLineFault answers stops before line old new Changed = stops before line.text.items stop.Changed × Keeps old new
IsLineFault answers stops before line old new Write = IsHalfWritten answers before line.text.items old new
IsLineFault answers stops before line old new CutShort = ⊥
IsLineFault answers stops before line old new Read = ⊥

-- ---- the input, line by line

-- why no line was read
abbrev pub IsReadFault : ScriptFault → Type 0
IsReadFault Memory = Unit {0}
IsReadFault Read = Unit {0}
IsReadFault _ = ⊥

-- the first line of what is left was answered; or nothing is left, and all is as it was
abbrev pub IsNext : {S : Type 0} → (S → List ℕ → List ℕ → S → Type 0) → S → List ℕ → S → Option (List ℕ) → Option (List ℕ) → Option (List ℕ) → Bool → Type 0
IsNext answers before text after left old new false = (text ≡ []) × (after ≡ before) × Keeps old new
IsNext answers before text after left old new true = HasLine text (first_line text) × (left ≡ Some (behind_line text)) × IsWritten answers before (first_line text) after old new

-- Why the first line of what is left, which has this number, was not answered.
abbrev pub IsFaultAt : {S : Type 0} → (S → List ℕ → List ℕ → S → Type 0) → (S → List ℕ → Stop → Type 0) → S → ℕ → List ℕ → Option (List ℕ) → Option (List ℕ) → ScriptFault → Type 0
IsFaultAt answers stops before number text old new (BadLine bad) = HasLine text bad.text.items × (bad.number ≡ number) × stops before bad.text.items stop.BadLine × Keeps old new
IsFaultAt answers stops before number text old new Memory = Keeps old new
IsFaultAt answers stops before number text old new Changed = HasLine text (first_line text) × stops before (first_line text) stop.Changed × Keeps old new
IsFaultAt answers stops before number text old new Read = Keeps old new
IsFaultAt answers stops before number text old new Write = HasLine text (first_line text) × IsHalfWritten answers before (first_line text) old new
IsFaultAt answers stops before number text old new CutShort = ⊥

-- Lines were answered one after another, each by what the lines before it left, and this is all that they were answered.
abbrev pub AreAnswered : {S : Type 0} → (S → List ℕ → List ℕ → S → Type 0) → S → List (List ℕ) → List ℕ → S → Type 0
AreAnswered answers before [] text after = (text ≡ []) × (after ≡ before)
AreAnswered {S} answers before (line ∷ lines) text after =
    (first rest : List ℕ) × (next : S) × answers before line first next × AreAnswered answers next lines rest after × (text ≡ first ++ rest)

-- The first lines of an input were answered, and the answers were written.
pub record HasAnswered {S : Type 0} (answers : S → List ℕ → List ℕ → S → Type 0) (start : S) (input : List ℕ) (number : ℕ) (state : S) (behind : List ℕ) (old new : Option (List ℕ)) : Type 0 where
  pub lines : List (List ℕ)
  pub text : List ℕ
  pub first : AreFirstLines lines input behind
  pub count : number ≡ length lines
  pub answered : AreAnswered answers start lines text state
  pub written : Appends old new text

-- what an end means for the program
abbrev pub ended : Result (Unit {0}) Stop → Result (Unit {0}) ScriptFault
ended (Ok done) = Ok done
ended (Err stop) = Err (fault_at_end stop)

-- How an input ended: the lines before the last that was read were answered, and the answers were written. Then nothing was left, and it
-- ended as the lines do; or the next line was not answered.
pub record Ends {S : Type 0} (answers : S → List ℕ → List ℕ → S → Type 0) (stops : S → List ℕ → Stop → Type 0) (ends : S → Result (Unit {0}) Stop) (start : S) (input : List ℕ) (old new : Option (List ℕ)) (result : Result (Unit {0}) ScriptFault) : Type 0 where
  pub number : ℕ
  pub state : S
  pub behind : List ℕ
  pub so_far : Option (List ℕ)
  pub told : HasAnswered answers start input number state behind old so_far
  pub end : ((behind ≡ []) × (result ≡ ended (ends state)) × Keeps so_far new) ⊎ MatchResult result (λ done. ⊥) (IsFaultAt answers stops state (number + 1) behind so_far new)

-- how a script has ended that reads this input
abbrev pub IsRun : Asking → List ℕ → Option (List ℕ) → Option (List ℕ) → Result (Unit {0}) ScriptFault → Type 0
IsRun asking input old new result = (start : Script) × IsStart asking start × Ends IsTold IsStoppedBy script_end start input old new result
