-- The events that have replies.
use Rattle.std.specs.Prelude.{List, length, take}
use Rattle.replica_core.specs.declared.event.Event.{Event}
use Rattle.replica_core.specs.declared.event.Reply.{Reply}

-- as many events as there are replies
abbrev pub answered_events : List Reply → List Event → List Event
answered_events replies events = take (length replies) events
