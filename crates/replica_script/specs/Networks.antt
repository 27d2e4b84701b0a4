-- What a network answers to the lines of a script, and what a script answers that asks one replica or a network.
use Rattle.std.specs.Prelude.{◌≡◌, ℕ, false, List, Option, Some, None, option_map, slice_get, ◌⊎◌}
use Rattle.network.specs.Nodes.{Node}
use Rattle.network.specs.Machine.{step, is_numbered}
use Rattle.network.specs.Faults.{IsEventCause}
use Rattle.network.specs.declared.event.NetworkEvent.{NetworkEvent}
use Rattle.network.specs.declared.event.NetworkReply.TheVariants.{NoNode}
use Rattle.replica_core.specs.State.{Replica}
use Rattle.replica_script.specs.declared.question.Query.{Query}
use Rattle.replica_script.specs.declared.question.NetworkQuestion.{NetworkQuestion}
use Rattle.replica_script.specs.declared.question.NetworkQuestion.TheVariants as question
use Rattle.replica_script.specs.declared.question.Asked.{Asked}
use Rattle.replica_script.specs.declared.question.Asked.TheVariants as asked
use Rattle.replica_script.specs.declared.answer.Stop.{Stop}
use Rattle.replica_script.specs.declared.answer.Stop.TheVariants as stop
use Rattle.replica_script.specs.declared.replicas.Replicas.{Replicas}
use Rattle.replica_script.specs.declared.replicas.Replicas.TheVariants.{One, Network}
use Rattle.replica_script.specs.Replies.{with_line_feed, network_reply_line}
use Rattle.replica_script.specs.Scripts.{Answers, IsFullLine, IsLeftBy, IsShown, IsStopAt}

-- ---- a network

-- an event was made: its reply's line, and the nodes after it
pub record IsMadeIn (old : List Node) (event : NetworkEvent) (new : List Node) (text : List ℕ) : Type 0 where
  pub line : text ≡ with_line_feed (network_reply_line (step old event).0)
  pub nodes : new ≡ (step old event).1

-- an event was made; or a set that it makes would have too many sources or intervals, and nothing has changed
abbrev pub IsNetworkAnswer : List Node → NetworkEvent → List Node → List ℕ → Type 0
IsNetworkAnswer old event new text = IsMadeIn old event new text ⊎ (IsFullLine (λ f. IsEventCause f old event) text × (new ≡ old))

-- a query of a replica was answered, or there is no such node
abbrev pub IsShownBy : Option Replica → Query → List ℕ → Type 0
IsShownBy None query text = text ≡ with_line_feed (network_reply_line NoNode)
IsShownBy (Some r) query text = IsShown r query text

abbrev pub IsShownAt : List Node → ℕ → Query → List ℕ → Type 0
IsShownAt nodes i query text = IsShownBy (option_map (λ node. node.replica) (slice_get nodes i)) query text

-- the answer to a question; a query changes nothing
abbrev pub NetworkAnswers : List Node → NetworkQuestion → List Node → List ℕ → Type 0
NetworkAnswers old (question.Event event) new text = IsNetworkAnswer old event new text
NetworkAnswers old (question.Query i query) new text = IsShownAt old i query text × (new ≡ old)

-- why a question stops a script: out of memory, or it is an event whose number is out of range
abbrev pub IsNetworkStopAt : NetworkQuestion → Stop → Type 0
IsNetworkStopAt q stop.Memory = Unit {0}
IsNetworkStopAt q stop.Changed = ⊥
IsNetworkStopAt (question.Event event) stop.BadLine = is_numbered event ≡ false
IsNetworkStopAt (question.Query i query) stop.BadLine = ⊥

-- what a question leaves if it has no answer: the nodes as they were, or those after the event whose reply was not given
abbrev pub IsNetworkLeft : List Node → NetworkEvent → List Node → Type 0
IsNetworkLeft old event new = (new ≡ old) ⊎ (new ≡ (step old event).1)

abbrev pub IsNetworkLeftBy : List Node → NetworkQuestion → List Node → Type 0
IsNetworkLeftBy old (question.Event event) new = IsNetworkLeft old event new
IsNetworkLeftBy old (question.Query i query) new = new ≡ old

-- ---- one replica, or a network

-- A question to the other of the two has no answer.
abbrev pub IsAnsweredBy : Replicas → Asked → Replicas → List ℕ → Type 0
IsAnsweredBy (One old) (asked.Replica q) (One new) text = Answers old q new text
IsAnsweredBy (Network old) (asked.Network q) (Network new) text = NetworkAnswers old q new text
IsAnsweredBy old q new text = ⊥

-- it is a bad line
abbrev pub IsStopOf : Replicas → Asked → Stop → Type 0
IsStopOf (One r) (asked.Replica q) s = IsStopAt q s
IsStopOf (Network nodes) (asked.Network q) s = IsNetworkStopAt q s
IsStopOf (One r) (asked.Network q) s = s ≡ stop.BadLine
IsStopOf (Network nodes) (asked.Replica q) s = s ≡ stop.BadLine

-- and changes nothing
abbrev pub IsLeftOf : Replicas → Asked → Replicas → Type 0
IsLeftOf (One old) (asked.Replica q) (One new) = IsLeftBy old q new
IsLeftOf (Network old) (asked.Network q) (Network new) = IsNetworkLeftBy old q new
IsLeftOf old q new = new ≡ old
