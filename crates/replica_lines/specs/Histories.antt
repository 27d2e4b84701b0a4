-- The line of an event and its reply in a history. The words and their order are our own.
use Rattle.std.specs.Prelude.{ℕ, List, ◌++◌, Option, Some, None, codes, decimal}
use Rattle.replica_core.specs.declared.event.Event.{Event}
use Rattle.replica_core.specs.declared.event.Event.TheVariants as event
use Rattle.replica_core.specs.declared.event.Reply.{Reply}
use Rattle.replica_lines.specs.Events.{event_line}
use Rattle.replica_lines.specs.Replies.{reply_line}

-- the seat that takes, commits or rolls back; no other event is of a seat
abbrev pub seat_of : Event → Option ℕ
seat_of (event.Take seat channel place) = Some seat
seat_of (event.Commit seat) = Some seat
seat_of (event.Rollback seat) = Some seat
seat_of e = None

-- a seat, if there is one
abbrev pub seat_word : Option ℕ → List ℕ
seat_word None = codes "-"
seat_word (Some seat) = decimal seat

-- the place of an event in a history, counted from 0, its seat, its line and that of its reply, without a line feed
abbrev pub history_line : ℕ → Event → Reply → List ℕ
history_line place e reply =
    decimal place ++ codes " " ++ seat_word (seat_of e) ++ codes " " ++ event_line e ++ codes " -> " ++ reply_line reply
