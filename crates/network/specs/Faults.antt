-- When an event of a network has an error in place of a reply, and which.
use Rattle.std.specs.Prelude.{◌≡◌, ◌⊎◌, ℕ, false, List, Option, Some, None, Ok, Err, MatchOption, slice_get}
use Rattle.std.specs.FinMap as finmap
use Rattle.std.specs.FinSet as set
use Rattle.gtid_set.specs.declared.fault.SetFault.{SetFault}
use Rattle.gtid_set.specs.declared.fault.SetFault.TheVariants.{Memory}
use Rattle.gtid_set.specs.Full.{HasManyIntervals, IsMemoryOr}
use Rattle.gtid_set.specs.Sets.{Gtids}
use Rattle.auto_position.specs.Sending.{IsPlanFault}
use Rattle.apply_channel.specs.Channels.{ChannelValue}
use Rattle.replica_core.specs.declared.event.Event.{Event}
use Rattle.replica_core.specs.declared.event.Event.TheVariants as event
use Rattle.replica_core.specs.Faults.{IsCause, HasRoomFor, set_made_by}
use Rattle.replica_core.specs.Machine as machine
use Rattle.network.specs.declared.event.NetworkEvent.{NetworkEvent}
use Rattle.network.specs.declared.event.NetworkEvent.TheVariants.{Act, Position, Receive}
use Rattle.network.specs.Nodes.{Node}
use Rattle.network.specs.Machine.{Decision, decide}

-- why an event of a node's replica has an error
abbrev pub IsCauseBy : SetFault → Event → Node → Type 0
IsCauseBy f e node = IsCause f node.replica.site node.replica.state e

-- the same of the node at a place; if none is there, only an allocation may fail
abbrev pub IsCauseAt : SetFault → List Node → ℕ → Event → Type 0
IsCauseAt f nodes i e = MatchOption (slice_get nodes i) (f ≡ Memory) (IsCauseBy f e)

abbrev pub IsCauseOf : SetFault → List Node → Decision → Type 0
IsCauseOf f nodes (Err reply) = f ≡ Memory
IsCauseOf f nodes (Ok m) = IsCauseAt f nodes m.node m.event

-- a source has too many intervals together with the set with which a channel asks
pub record IsPlanCause (f : SetFault) (nodes : List Node) (i c k : ℕ) : Type 0 where
  pub node : Node
  pub source : Node
  pub channel : ChannelValue
  pub at : slice_get nodes i ≡ Some node
  pub from : slice_get nodes k ≡ Some source
  pub there : slice_get node.replica.state.channels c ≡ Some channel
  pub plan : IsPlanFault source.replica.state.journal (machine.ask node.replica.state channel) f

-- what a source has purged has too many intervals outside the set with which a channel has asked
pub record IsReadingCause (f : SetFault) (nodes : List Node) (i c : ℕ) : Type 0 where
  pub node : Node
  pub k : ℕ
  pub source : Node
  pub channel : ChannelValue
  pub asked : Gtids
  pub at : slice_get nodes i ≡ Some node
  pub reads : finmap.get node.sources c ≡ Some k
  pub from : slice_get nodes k ≡ Some source
  pub there : slice_get node.replica.state.channels c ≡ Some channel
  pub with : channel.asked ≡ Some asked
  pub purged : IsMemoryOr ⊥ (HasManyIntervals (set.difference source.replica.state.journal.previous asked)) f

-- Why an event has an error: for the causes of the replica's event that it makes. A Position makes the set that it asks with, whatever the
-- source answers, and then those that the source makes for its answer; a Receive first tests whether the channel has all that was purged.
abbrev pub IsEventCause : SetFault → List Node → NetworkEvent → Type 0
IsEventCause f nodes (Act i e) = IsCauseAt f nodes i e
IsEventCause f nodes (Position i c k) = IsCauseAt f nodes i (event.Position c) ⊎ IsPlanCause f nodes i c k
IsEventCause f nodes (Receive i c) = IsCauseOf f nodes (decide nodes (Receive i c)) ⊎ IsReadingCause f nodes i c

-- a fault of the next event, if there is one; a failed allocation may come before its step
abbrev pub IsFaultAt : SetFault → List Node → Option NetworkEvent → Type 0
IsFaultAt f nodes None = Unit {0}
IsFaultAt f nodes (Some e) = IsEventCause f nodes e

-- ---- memory that was refused

-- out of memory only if the set that a node's replica makes by an event, if it makes one, has not too many sources
abbrev pub HasRoomBy : SetFault → Event → Node → Type 0
HasRoomBy f e node = HasRoomFor f (set_made_by node.replica.site node.replica.state e)

-- the same of the node at a place, if one is there
abbrev pub HasRoomAt : SetFault → List Node → ℕ → Event → Type 0
HasRoomAt f nodes i e = MatchOption (slice_get nodes i) (Unit {0}) (HasRoomBy f e)

abbrev pub HasRoomOf : SetFault → List Node → Decision → Type 0
HasRoomOf f nodes (Err reply) = Unit {0}
HasRoomOf f nodes (Ok m) = HasRoomAt f nodes m.node m.event

-- a source has purged what a channel has not asked with: to find out whether all of it has come takes memory
pub record IsReadAnew (nodes : List Node) (i c : ℕ) : Type 0 where
  pub node : Node
  pub k : ℕ
  pub source : Node
  pub channel : ChannelValue
  pub asked : Gtids
  pub at : slice_get nodes i ≡ Some node
  pub reads : finmap.get node.sources c ≡ Some k
  pub from : slice_get nodes k ≡ Some source
  pub there : slice_get node.replica.state.channels c ≡ Some channel
  pub with : channel.asked ≡ Some asked
  pub more : set.is_subset source.replica.state.journal.previous asked ≡ false

-- Out of memory only if the set that an event makes, if it makes one, has not too many sources. A Receive may be refused it before it is
-- known what is received.
abbrev pub HasRoomIn : SetFault → List Node → NetworkEvent → Type 0
HasRoomIn f nodes (Act i e) = HasRoomOf f nodes (decide nodes (Act i e))
HasRoomIn f nodes (Position i c k) = HasRoomAt f nodes i (event.Position c)
HasRoomIn f nodes (Receive i c) = HasRoomOf f nodes (decide nodes (Receive i c)) ⊎ IsReadAnew nodes i c

-- the same of the event that comes next, if any comes
abbrev pub HasRoomNext : SetFault → List Node → Option NetworkEvent → Type 0
HasRoomNext f nodes None = Unit {0}
HasRoomNext f nodes (Some e) = HasRoomIn f nodes e
