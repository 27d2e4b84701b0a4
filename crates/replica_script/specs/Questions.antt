-- What a line asks of a replica. The words are our own.
use Rattle.std.specs.Prelude.{ℕ, min, Bool, true, false, List, Option, Some, None, option_map, option_and_then, codes, if◌then◌else◌}
use Rattle.std.specs.Str.{bytes_eq}
use Rattle.row_images.specs.Words.{first_word, others, count_of}
use Rattle.txn_journal.specs.Versions.{limits_of}
use Rattle.txn_journal.specs.Words.{name_of}
use Rattle.txn_journal.specs.declared.lines.Version.{Version}
use Rattle.replica_core.specs.declared.event.Event.TheVariants as event
use Rattle.replica_script.specs.declared.question.Question.{Question}
use Rattle.replica_script.specs.declared.question.Question.TheVariants.{Event, Query}
use Rattle.replica_script.specs.declared.question.Query.TheVariants as query

-- the question that is one word; a journal is shown by this version
abbrev pub question_alone : Version → List ℕ → Option Question
question_alone version word =
    if bytes_eq word (codes "look") then Some (Event event.Look)
    else if bytes_eq word (codes "rows") then Some (Query query.Rows)
    else if bytes_eq word (codes "executed") then Some (Query query.Executed)
    else if bytes_eq word (codes "purged") then Some (Query query.Purged)
    else if bytes_eq word (codes "journal") then Some (Query (query.Journal version))
    else if bytes_eq word (codes "drained") then Some (Query query.Drained)
    else if bytes_eq word (codes "status") then Some (Query query.Status)
    else None

-- a seat as an event has it: 255, which is no seat, denotes those above it
abbrev pub seat : ℕ → ℕ
seat number = min number 255

-- the question that is a word and a number
abbrev pub with_one : List ℕ → ℕ → Option Question
with_one word number =
    if bytes_eq word (codes "position") then Some (Event (event.Position number))
    else if bytes_eq word (codes "commit") then Some (Event (event.Commit (seat number)))
    else if bytes_eq word (codes "rollback") then Some (Event (event.Rollback (seat number)))
    else if bytes_eq word (codes "restart") then Some (Event (event.Restart number))
    else if bytes_eq word (codes "purge") then Some (Event (event.Purge number))
    else if bytes_eq word (codes "ask") then Some (Query (query.Ask number))
    else None

-- the question that is a word and two numbers: a channel and a place
abbrev pub with_two : List ℕ → ℕ → ℕ → Option Question
with_two word channel place =
    if bytes_eq word (codes "entry") then Some (Query (query.Entry channel place))
    else if bytes_eq word (codes "next") then Some (Query (query.Next channel place))
    else None

-- the question that is a word and three numbers: a seat, a channel and a place
abbrev pub with_three : List ℕ → ℕ → ℕ → ℕ → Option Question
with_three word number channel place =
    if bytes_eq word (codes "take") then Some (Event (event.Take (seat number) channel place)) else None

-- the same from the words of a line: those after the second number, those after the first, and all after the word
abbrev pub behind_two : List ℕ → ℕ → Option (List ℕ) → ℕ → Option Question
behind_two word first None second = with_two word first second
behind_two word first (Some rest) second = option_and_then (with_three word first second) (count_of rest)

abbrev pub behind_one : List ℕ → Option (List ℕ) → ℕ → Option Question
behind_one word None first = with_one word first
behind_one word (Some rest) first = option_and_then (behind_two word first (others rest)) (count_of (first_word rest))

abbrev pub with_numbers : List ℕ → List ℕ → Option Question
with_numbers word rest = option_and_then (behind_one word (others rest)) (count_of (first_word rest))

-- whether a channel preserves order, by the words after its name
abbrev pub preserves : Option (List ℕ) → Option Bool
preserves None = Some false
preserves (Some word) = if bytes_eq word (codes "preserve") then Some true else None

-- the opening of a channel, whose name is one of this version
abbrev pub opening_of : Version → List ℕ → Bool → Option Question
opening_of version word preserve = option_map (λ name. Event (event.OpenChannel name preserve)) (name_of (limits_of version) word)

abbrev pub channel_of : Version → List ℕ → Option Question
channel_of version rest = option_and_then (opening_of version (first_word rest)) (preserves (others rest))

-- the question that a line is, by its first word and what is behind it; the lines that begin a transaction are none of these
abbrev pub question_behind : Version → List ℕ → Option (List ℕ) → Option Question
question_behind version word None = question_alone version word
question_behind version word (Some rest) = if bytes_eq word (codes "channel") then channel_of version rest else with_numbers word rest

abbrev pub question_of : Version → List ℕ → Option Question
question_of version line = question_behind version (first_word line) (others line)
