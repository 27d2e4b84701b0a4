-- Why a call has no reply, by its event alone: other threads may have changed the replica.
use Rattle.std.specs.Prelude.{◌≡◌, Bool, true, false}
use Rattle.gtid_set.specs.declared.fault.SetFault.{SetFault}
use Rattle.gtid_set.specs.Full.{IsMemoryOr}
use Rattle.replica_core.specs.declared.event.Event.{Event}
use Rattle.replica_core.specs.declared.event.Event.TheVariants as event

-- the events that make a set
abbrev pub makes_a_set : Event → Bool
makes_a_set (event.OpenChannel name preserve) = false
makes_a_set (event.Position channel) = true
makes_a_set (event.Receive channel entry) = true
makes_a_set (event.Take seat channel place) = false
makes_a_set (event.Commit seat) = true
makes_a_set (event.Rollback seat) = false
makes_a_set (event.Restart channel) = false
makes_a_set (event.Local changes) = true
makes_a_set (event.Purge count) = true
makes_a_set event.Look = false

-- out of memory, or the set that the event makes would have too many sources or intervals
abbrev pub IsFaultFor : Event → SetFault → Type 0
IsFaultFor e f = IsMemoryOr (makes_a_set e ≡ true) (makes_a_set e ≡ true) f
