-- What is written of an event is read back.
use Rattle.std.specs.Prelude.{◌≡◌, ℕ, ◌^◌, ◌<◌, Some}
use Rattle.replica_core.specs.declared.event.Event.{Event}
use Rattle.replica_core.specs.declared.event.Event.TheVariants.{Take, Commit, Rollback}
use Rattle.replica_lines.specs.Events.{event_line}
use Rattle.txn_journal.specs.declared.lines.Version.{Version}
use Rattle.replica_script.specs.declared.question.Question.TheVariants as question
use Rattle.replica_script.specs.Questions.{question_of}

-- a line that is written of an event asks for that event, by every version
abbrev pub IsReadBack : Event → Type 0
IsReadBack e = (version : Version) → question_of version (event_line e) ≡ Some (question.Event e)

-- so do those of a seat: its number has 8 bits, that of a channel or a place 64
pub record SeatsAreReadBack : Type 0 where
  pub take : (seat channel place : ℕ) → seat < 2 ^ 8 → channel < 2 ^ 64 → place < 2 ^ 64 → IsReadBack (Take seat channel place)
  pub commit : (seat : ℕ) → seat < 2 ^ 8 → IsReadBack (Commit seat)
  pub rollback : (seat : ℕ) → seat < 2 ^ 8 → IsReadBack (Rollback seat)
