-- What the command `set` prints, and how it ends. The lines are our own.
use Rattle.std.specs.Prelude.{◌≡◌, ℕ, Bool, true, false, ◌||◌, if◌then◌else◌, List, [], Option, Result, Ok, Err, codes}
use Rattle.std.specs.Option.{option_map, option_map_or}
use Rattle.std.specs.Str.{bytes_eq}
use Rattle.std.specs.Str.Lossy.{utf8_lossy}
use Rattle.gtid_report.specs.declared.fault.Fault.{Fault}
use Rattle.gtid_report.specs.declared.fault.Fault.TheVariants as fault
use Rattle.gtid_report.specs.declared.refusal.Refusal.{Refusal}
use Rattle.gtid_report.specs.declared.refusal.Refusal.TheVariants as refusal
use Rattle.gtid_report.specs.Refusals.{refusal_line}
use Rattle.gtid_report.specs.SetAnswers.{function_line}
use Rattle.commands.specs.Printed.{Printed, Answering, at_once, to_all, with_line_feed}
use Rattle.commands.specs.declared.edge.Outcome.{Outcome}
use Rattle.commands.specs.declared.edge.Outcome.TheVariants.{Done, Refused, Misused}

-- an unknown function or a wrong number of words is a fault of the command line
abbrev pub refusal_ending : Refusal → Outcome
refusal_ending refusal.Usage = Misused
refusal_ending r = Refused

-- the line of an answer, or that of its refusal
abbrev pub printed_line : Result (List ℕ) Fault → Printed
printed_line (Ok line) = record { text = with_line_feed line; outcome = Done }
printed_line (Err (fault.Refused r)) = record { text = with_line_feed (refusal_line r); outcome = refusal_ending r }
printed_line (Err fault.Memory) = record { text = []; outcome = Refused }

-- the answer to a function's name, its first word, and its second word if one is given
abbrev pub printed_set : List ℕ → List ℕ → Option (List ℕ) → Printed
printed_set function a b = printed_line (function_line function a b)

-- ---- a word that is read

-- a word `-` denotes standard input
abbrev pub is_input : List ℕ → Bool
is_input word = bytes_eq word (codes "-")

-- a word that may be given denotes it
abbrev pub names_input : Option (List ℕ) → Bool
names_input word = option_map_or is_input word false

-- a word, or this input if the word denotes it
abbrev pub word_or : List ℕ → List ℕ → List ℕ
word_or input word = if is_input word then input else word

-- the same, if a word may denote this input
abbrev pub printed_set_over : List ℕ → List ℕ → Option (List ℕ) → List ℕ → Printed
printed_set_over function a b input = printed_set function (word_or input a) (option_map (word_or input) b)

-- it is the answer over all of standard input, in which bytes that are no UTF-8 are replaced
abbrev pub IsSetAnswer : List ℕ → List ℕ → Option (List ℕ) → List ℕ → Printed → Type 0
IsSetAnswer function a b bytes printed = printed ≡ printed_set_over function a b (utf8_lossy bytes)

abbrev pub answering_by : Bool → List ℕ → List ℕ → Option (List ℕ) → Answering
answering_by true function a b = to_all (IsSetAnswer function a b)
answering_by false function a b = at_once (printed_set function a b)

-- Where a word denotes standard input, the answer is to all of it; else it is to the words alone.
abbrev pub set_answering : List ℕ → List ℕ → Option (List ℕ) → Answering
set_answering function a b = answering_by (is_input a || names_input b) function a b
