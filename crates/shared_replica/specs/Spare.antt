-- Sets that a reply shows, made before its step.
use Rattle.std.specs.Prelude.{◌≡◌, Bool, true, false, Option, Some, ⊤}
use Rattle.gtid_set.specs.Sets.{Gtids}
use Rattle.replica_core.specs.declared.event.Event.{Event}
use Rattle.replica_core.specs.declared.event.Event.TheVariants as event
use Rattle.replica_core.specs.declared.event.Reply.{Reply}
use Rattle.replica_core.specs.declared.event.Reply.TheVariants.{Ask, Purged, Shown}

-- the set of a reply that has one
abbrev pub IsSpare : Reply → Option Gtids → Type 0
IsSpare (Ask set) spare = spare ≡ Some set
IsSpare (Purged set) spare = spare ≡ Some set
IsSpare (Shown set) spare = spare ≡ Some set
IsSpare _ spare = ⊤

-- whether the reply to an event may show a set
abbrev pub shows : Event → Bool
shows (event.Position c) = true
shows (event.Purge k) = true
shows event.Look = true
shows _ = false
