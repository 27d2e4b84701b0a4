-- An allocation may fail anywhere, and too many sources or intervals only where a set is made.
use Rattle.std.proofs.Common.{◌≡◌, true, refl}
use Rattle.std.specs.Prelude.{Option, Some, None}
use Rattle.gtid_set.specs.Sets.{Gtids}
use Rattle.gtid_set.specs.declared.fault.SetFault.{SetFault}
use Rattle.gtid_set.specs.declared.fault.SetFault.TheVariants.{Memory}
use Rattle.gtid_set.proofs.FaultLemmas.{fault_map, memory_fault}
use Rattle.replica_core.specs.declared.event.Event.{Event}
use Rattle.replica_core.specs.declared.event.Event.TheVariants as event
use Rattle.replica_core.specs.State.{Site, State}
use Rattle.replica_core.specs.Faults.{IsFaultIn, IsCause, ask_set, received_set, committed_set, numbered_set}
use Rattle.shared_replica.specs.Faults.{makes_a_set, IsFaultFor}

memory_in : (made : Option Gtids) → IsFaultIn Memory made
memory_in None = refl
memory_in (Some made) = tt

pub memory_anywhere : (site : Site) (s : State) (e : Event) → IsCause Memory site s e
memory_anywhere site s (event.OpenChannel name preserve) = refl
memory_anywhere site s (event.Position channel) = memory_in (ask_set channel s)
memory_anywhere site s (event.Receive channel entry) = memory_in (received_set channel entry s)
memory_anywhere site s (event.Take seat channel place) = refl
memory_anywhere site s (event.Commit seat) = memory_in (committed_set seat s)
memory_anywhere site s (event.Rollback seat) = refl
memory_anywhere site s (event.Restart channel) = refl
memory_anywhere site s (event.Local changes) = memory_in (numbered_set site s)
memory_anywhere site s (event.Purge count) = tt
memory_anywhere site s event.Look = refl

memory_for : (f : SetFault) (e : Event) → f ≡ Memory → IsFaultFor e f
memory_for f e is = memory_fault _ _ f is

set_for : (f : SetFault) (e : Event) (made : Option Gtids) → makes_a_set e ≡ true → IsFaultIn f made → IsFaultFor e f
set_for f e None makes is = memory_for f e is
set_for f e (Some made) makes is = fault_map f (λ full. makes) (λ full. makes) is

-- a fault of an event at a state is one that the event may have
pub fault_for : (f : SetFault) (site : Site) (s : State) (e : Event) → IsCause f site s e → IsFaultFor e f
fault_for f site s (event.OpenChannel name preserve) is = memory_for f (event.OpenChannel name preserve) is
fault_for f site s (event.Position channel) is = set_for f (event.Position channel) (ask_set channel s) refl is
fault_for f site s (event.Receive channel entry) is = set_for f (event.Receive channel entry) (received_set channel entry s) refl is
fault_for f site s (event.Take seat channel place) is = memory_for f (event.Take seat channel place) is
fault_for f site s (event.Commit seat) is = set_for f (event.Commit seat) (committed_set seat s) refl is
fault_for f site s (event.Rollback seat) is = memory_for f (event.Rollback seat) is
fault_for f site s (event.Restart channel) is = memory_for f (event.Restart channel) is
fault_for f site s (event.Local changes) is = set_for f (event.Local changes) (numbered_set site s) refl is
fault_for f site s (event.Purge count) is = fault_map f (λ full. refl) (λ full. refl) is
fault_for f site s event.Look is = memory_for f event.Look is
