-- Servers and what each has executed, as lines of a text. The lines are our own.
use Rattle.std.specs.Prelude.{ℕ, ◌+◌, ◌==◌, List, [], ◌∷◌, ◌++◌, codes, Option, Some, None, Result, Ok, Err, if◌then◌else◌, nat_lt, length}
use Rattle.std.specs.List.{before_first, after_first, position_or_len}
use Rattle.std.specs.Str.{bytes_eq}
use Rattle.std.specs.Str.Lines.{lines}
use Rattle.std.specs.FinSet as set
use Rattle.gtid_text.specs.declared.SourceId.{SourceId}
use Rattle.gtid_set.specs.Sets.{Gtids}
use Rattle.gtid_report.specs.SetAnswers.{◌>>=◌, set_word, source_word}
use Rattle.gtid_report.specs.declared.fault.Fault.{Fault}
use Rattle.gtid_report.specs.declared.fault.Fault.TheVariants.{Memory, Refused}
use Rattle.gtid_report.specs.declared.refusal.Refusal.TheVariants.{PoolFull, SourcesFull, Line, Usage}
use Rattle.gtid_report.specs.declared.refusal.LineCause.TheVariants.{Body}

-- a server, and what it has executed
pub record ServerValue : Type 0 where
  pub name : List ℕ
  pub source : SourceId
  pub executed : Gtids

-- the word before the first blank, and the text after that blank
abbrev pub cut : List ℕ → Option (List ℕ × List ℕ)
cut text =
    if nat_lt (position_or_len (λ b. b == 32) text) (length text) then Some (before_first (λ b. b == 32) text, after_first (λ b. b == 32) text)
    else None

-- a name that is not empty, a word, and what follows them
abbrev pub three : List ℕ → Option (List ℕ × List ℕ) → Option (List ℕ × List ℕ × List ℕ)
three [] rest = None
three (b ∷ bs) None = None
three (b ∷ bs) (Some rest) = Some (b ∷ bs, rest.0, rest.1)

abbrev pub cut_again : Option (List ℕ × List ℕ) → Option (List ℕ × List ℕ × List ℕ)
cut_again None = None
cut_again (Some parts) = three parts.0 (cut parts.1)

-- a name, a UUID and a set
abbrev pub words_of : List ℕ → Option (List ℕ × List ℕ × List ℕ)
words_of line = cut_again (cut line)

-- the set that a word parses as; a hyphen is the empty set
abbrev pub set_of_word : List ℕ → Result Gtids Fault
set_of_word word = if bytes_eq word (codes "-") then Ok (set.empty) else set_word word

-- the source that a word names. A UUID has 36 characters, so a word of that many has no blank around it.
abbrev pub source_of_word : List ℕ → Result SourceId Fault
source_of_word word = if length word == 36 then source_word word else Err (Refused Usage)

abbrev pub server_of_words : Option (List ℕ × List ℕ × List ℕ) → Result ServerValue Fault
server_of_words None = Err (Refused Usage)
server_of_words (Some w) = source_of_word w.1 >>= λ source. set_of_word w.2 >>= λ executed. Ok (record { name = w.0; source = source; executed = executed })

-- the server that a line names
abbrev pub server_of : List ℕ → Result ServerValue Fault
server_of line = server_of_words (words_of line)

-- a line that names no server is refused by its number, and a set that is too large for that
abbrev pub fault_at_line : ℕ → Fault → Fault
fault_at_line number Memory = Memory
fault_at_line number (Refused PoolFull) = Refused PoolFull
fault_at_line number (Refused SourcesFull) = Refused SourcesFull
fault_at_line number (Refused r) = Refused (Line number Body)

abbrev pub at_line : ℕ → Result ServerValue Fault → Result ServerValue Fault
at_line number (Ok s) = Ok s
at_line number (Err f) = Err (fault_at_line number f)

-- the servers of lines, after those of the lines before; lines count from 1
abbrev pub servers_behind : List ServerValue → List (List ℕ) → Result (List ServerValue) Fault
servers_behind before [] = Ok before
servers_behind before (l ∷ ls) = at_line (length before + 1) (server_of l) >>= λ s. servers_behind (before ++ s ∷ []) ls

-- the servers of a text, one a line
abbrev pub servers_in : List ℕ → Result (List ServerValue) Fault
servers_in text = servers_behind [] (lines text)
