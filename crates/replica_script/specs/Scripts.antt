-- What a script answers, and how it ends.
use Rattle.std.specs.Prelude.{◌≡◌, ℕ, Bool, true, false, List, [], ◌∷◌, Option, Some, None, Result, Ok, Err, ◌⊎◌, codes, String, string_bytes, if◌then◌else◌}
use Rattle.std.specs.Str.{bytes_eq}
use Rattle.gtid_set.specs.Sets.{Gtids}
use Rattle.gtid_set.specs.declared.fault.SetFault.{SetFault}
use Rattle.gtid_set.specs.declared.fault.SetFault.TheVariants as sets
use Rattle.gtid_set.specs.declared.fault.SetFault.TheVariants.{PoolFull, SourcesFull}
use Rattle.replica_core.specs.State.{Replica, State}
use Rattle.replica_core.specs.Machine.{step, is_numbered}
use Rattle.replica_core.specs.Faults.{IsFaultIn, IsCause, ask_set}
use Rattle.replica_core.specs.declared.event.Event.{Event}
use Rattle.replica_script.specs.declared.question.Query.{Query}
use Rattle.replica_script.specs.declared.question.Query.TheVariants as query
use Rattle.replica_script.specs.declared.question.Question.{Question}
use Rattle.replica_script.specs.declared.question.Question.TheVariants as question
use Rattle.replica_script.specs.declared.answer.Asking.TheVariants as asking
use Rattle.replica_script.specs.declared.answer.Unanswered.{Unanswered}
use Rattle.replica_script.specs.declared.answer.Unanswered.TheVariants as unasked
use Rattle.replica_script.specs.declared.answer.Stop.{Stop}
use Rattle.replica_script.specs.declared.answer.Stop.TheVariants as stop
use Rattle.replica_script.specs.declared.edge.ScriptLine.{ScriptLine}
use Rattle.replica_script.specs.declared.edge.ScriptFault.{ScriptFault}
use Rattle.replica_script.specs.declared.edge.ScriptFault.TheVariants.{BadLine, CutShort, Memory, Changed, Read, Write}
use Rattle.replica_script.specs.declared.ScriptCommand.{ScriptCommand}
use Rattle.replica_script.specs.declared.ScriptCommand.TheVariants.{Run, Help}
use Rattle.replica_lines.specs.Replies.{reply_line}
use Rattle.replica_script.specs.Replies.{with_line_feed}
use Rattle.replica_script.specs.Texts.{query_text}

-- ---- answers

-- A set would have too many sources or intervals, if that may be, and this is the line of that.
abbrev pub IsFullLine : (SetFault → Type 0) → List ℕ → Type 0
IsFullLine may text = (may SourcesFull × (text ≡ codes "SourcesFull\n")) ⊎ (may PoolFull × (text ≡ codes "PoolFull\n"))

-- an event was made: its reply's line, and the state after it
pub record IsMade (old : Replica) (event : Event) (new : Replica) (text : List ℕ) : Type 0 where
  pub line : text ≡ with_line_feed (reply_line (step old.site old.state event).0)
  pub state : new.state ≡ (step old.site old.state event).1
  pub site : new.site ≡ old.site

-- an event was made; or the set that it makes would have too many sources or intervals, and nothing has changed
abbrev pub IsAnswer : Replica → Event → Replica → List ℕ → Type 0
IsAnswer old event new text = IsMade old event new text ⊎ (IsFullLine (λ f. IsCause f old.site old.state event) text × (new ≡ old))

-- the set that is made to answer a query
abbrev pub made_for : Query → State → Option Gtids
made_for (query.Ask channel) s = ask_set channel s
made_for _ s = None

-- a query was answered, or the set that it needs would have too many sources or intervals
abbrev pub IsShown : Replica → Query → List ℕ → Type 0
IsShown r query text = (text ≡ query_text r query) ⊎ IsFullLine (λ f. IsFaultIn f (made_for query r.state)) text

-- the answer to a question; a query changes nothing
abbrev pub Answers : Replica → Question → Replica → List ℕ → Type 0
Answers old (question.Event event) new text = IsAnswer old event new text
Answers old (question.Query query) new text = IsShown old query text × (new ≡ old)

-- why a question stops a script: out of memory, or it is an event whose number is out of range, which is a bad line; never that a call
-- which was refused memory has changed the replica
abbrev pub IsStopAt : Question → Stop → Type 0
IsStopAt asked stop.Memory = Unit {0}
IsStopAt asked stop.Changed = ⊥
IsStopAt (question.Event event) stop.BadLine = is_numbered event ≡ false
IsStopAt (question.Query query) stop.BadLine = ⊥

-- what a question leaves if it has no answer: what it was asked of, or the state after the event whose reply was not given
abbrev pub IsLeft : Replica → Event → Replica → Type 0
IsLeft old event new = (new ≡ old) ⊎ ((new.state ≡ (step old.site old.state event).1) × (new.site ≡ old.site))

abbrev pub IsLeftBy : Replica → Question → Replica → Type 0
IsLeftBy old (question.Event event) new = IsLeft old event new
IsLeftBy old (question.Query query) new = new ≡ old

-- ---- a replica that does not answer

-- what a fault of a set means
abbrev pub unanswered : SetFault → Unanswered
unanswered SourcesFull = unasked.SourcesFull
unanswered PoolFull = unasked.PoolFull
unanswered sets.Memory = unasked.Memory

-- why there is no answer: out of memory, or the set that is made would have too many sources or intervals, if that may be
abbrev pub IsUnanswered : (SetFault → Type 0) → Unanswered → Type 0
IsUnanswered may unasked.Memory = Unit {0}
IsUnanswered may unasked.SourcesFull = may SourcesFull
IsUnanswered may unasked.PoolFull = may PoolFull
IsUnanswered may unasked.Changed = ⊥

-- ---- the words of the command line

-- what one word asks for, if anything
abbrev pub command_named : List ℕ → Option ScriptCommand
command_named word =
    if bytes_eq word (codes "--again") then Some (Run asking.Again)
    else if bytes_eq word (codes "--help") then Some Help
    else None

-- what the words ask for, if anything
abbrev pub command_of : {Z : Type 0} → List (String Z) → Option ScriptCommand
command_of [] = Some (Run asking.Once)
command_of (word ∷ []) = command_named (string_bytes word)
command_of (word ∷ next ∷ more) = None

-- ---- the end

-- how a script has ended if no line follows: an end inside a transaction is a bad line
abbrev pub ending : Option Stop → Bool → Result (Unit {0}) Stop
ending (Some stop) inside = Err stop
ending None true = Err stop.BadLine
ending None false = Ok tt

-- what a stop at a line means for the program
abbrev pub fault_at : ScriptLine → Stop → ScriptFault
fault_at line stop.BadLine = BadLine line
fault_at line stop.Memory = Memory
fault_at line stop.Changed = Changed

-- what a stop means if no line follows
abbrev pub fault_at_end : Stop → ScriptFault
fault_at_end stop.BadLine = CutShort
fault_at_end stop.Memory = Memory
fault_at_end stop.Changed = Changed

-- the status that the program ends with
abbrev pub status_of : Result (Unit {0}) ScriptFault → ℕ
status_of (Ok done) = 0
status_of (Err (BadLine line)) = 2
status_of (Err CutShort) = 2
status_of (Err Memory) = 3
status_of (Err Changed) = 5
status_of (Err Read) = 4
status_of (Err Write) = 4
