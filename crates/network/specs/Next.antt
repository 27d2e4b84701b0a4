-- What a channel of a node has to receive.
use Rattle.std.specs.Prelude.{◌≡◌, ℕ, true, List, Some, Ok, Err, slice_get}
use Rattle.journal.specs.declared.Entry.{Entry}
use Rattle.replica_core.specs.declared.event.Event.TheVariants as event
use Rattle.replica_core.specs.Machine as machine
use Rattle.network.specs.declared.event.NetworkEvent.TheVariants.{Receive}
use Rattle.network.specs.declared.event.NetworkReply.TheVariants.{Nothing}
use Rattle.network.specs.declared.network.Next.{Next}
use Rattle.network.specs.declared.network.Next.TheVariants as next
use Rattle.network.specs.Nodes.{Node}
use Rattle.network.specs.Machine.{decide}
use Rattle.network.specs.Reading.{IsReadFrom}

-- the channel has all entries
pub record IsAtEnd (nodes : List Node) (i c place : ℕ) : Type 0 where
  pub node : Node
  pub at : slice_get nodes i ≡ Some node
  pub nothing : decide nodes (Receive i c) ≡ Err Nothing
  pub read : (k : ℕ) → IsReadFrom nodes i c k (Some place)

-- this entry is received next, and the channel has those before its place
pub record IsEntryNext (nodes : List Node) (i c place : ℕ) (entry : Entry) : Type 0 where
  pub node : Node
  pub at : slice_get nodes i ≡ Some node
  pub decided : decide nodes (Receive i c) ≡ Ok (record { node = i; event = event.Receive c entry; sources = node.sources })
  pub numbered : machine.is_numbered (event.Receive c entry) ≡ true
  pub read : (k : ℕ) → IsReadFrom nodes i c k (Some place)

abbrev pub IsNext : List Node → ℕ → ℕ → Next → Type 0
IsNext nodes i c (next.Reply reply) = decide nodes (Receive i c) ≡ Err reply
IsNext nodes i c (next.End place) = IsAtEnd nodes i c place
IsNext nodes i c (next.Entry place entry) = IsEntryNext nodes i c place entry
