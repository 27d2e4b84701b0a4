-- What a line asks of a network. The words are our own.
use Rattle.std.specs.Prelude.{ℕ, List, Option, Some, None, option_and_then, codes, if◌then◌else◌}
use Rattle.std.specs.Str.{bytes_eq}
use Rattle.row_images.specs.Words.{first_word, others, count_of}
use Rattle.network.specs.declared.event.NetworkEvent.{NetworkEvent}
use Rattle.network.specs.declared.event.NetworkEvent.TheVariants.{Act, Position, Receive}
use Rattle.replica_script.specs.declared.question.Question.{Question}
use Rattle.replica_script.specs.declared.question.Question.TheVariants as question
use Rattle.replica_script.specs.declared.question.NetworkQuestion.{NetworkQuestion}
use Rattle.replica_script.specs.declared.question.NetworkQuestion.TheVariants as network_question
use Rattle.replica_script.specs.declared.question.Asked.{Asked}
use Rattle.replica_script.specs.declared.question.Asked.TheVariants.{Replica, Network}

-- a question of the replica of a node
abbrev pub at_node : ℕ → Question → NetworkQuestion
at_node node (question.Event event) = network_question.Event (Act node event)
at_node node (question.Query query) = network_question.Query node query

-- a question of the replica of a node, or of the one replica
abbrev pub asked_of : Option ℕ → Question → Asked
asked_of None asked = Replica asked
asked_of (Some node) asked = Network (at_node node asked)

-- the event that is a word and two numbers: a node and its channel
abbrev pub network_with_two : List ℕ → ℕ → ℕ → Option NetworkEvent
network_with_two word node channel = if bytes_eq word (codes "receive") then Some (Receive node channel) else None

-- the event that is a word and three numbers: a node, its channel, and the node at which that is positioned
abbrev pub network_with_three : List ℕ → ℕ → ℕ → ℕ → Option NetworkEvent
network_with_three word node channel source = if bytes_eq word (codes "position") then Some (Position node channel source) else None

-- the same from the words of a line: those after the second number, those after the first, and all after the word
abbrev pub network_behind_two : List ℕ → ℕ → Option (List ℕ) → ℕ → Option NetworkEvent
network_behind_two word node None channel = network_with_two word node channel
network_behind_two word node (Some rest) channel = option_and_then (network_with_three word node channel) (count_of rest)

abbrev pub network_behind_one : List ℕ → Option (List ℕ) → ℕ → Option NetworkEvent
network_behind_one word None node = None
network_behind_one word (Some rest) node = option_and_then (network_behind_two word node (others rest)) (count_of (first_word rest))

abbrev pub network_event_of : List ℕ → List ℕ → Option NetworkEvent
network_event_of word rest = option_and_then (network_behind_one word (others rest)) (count_of (first_word rest))
