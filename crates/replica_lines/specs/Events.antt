-- The line of each event, as a script has it. The words and their order are our own.
use Rattle.std.specs.Prelude.{ℕ, Bool, true, false, List, [], ◌++◌, codes, decimal}
use Rattle.gtid_text.specs.Canonical.{gtid_text}
use Rattle.replica_core.specs.declared.event.Event.{Event}
use Rattle.replica_core.specs.declared.event.Event.TheVariants as event

-- a number behind a blank
abbrev pub behind_blank : ℕ → List ℕ
behind_blank number = codes " " ++ decimal number

-- whether a channel preserves the order of its places
abbrev pub preserve_word : Bool → List ℕ
preserve_word true = codes " preserve"
preserve_word false = []

-- the line of an event, without its line feed; of a received entry and of a transaction of the server's own it is their first line alone,
-- without the lines of their changes
abbrev pub event_line : Event → List ℕ
event_line (event.OpenChannel name preserve) = codes "channel " ++ name ++ preserve_word preserve
event_line (event.Position channel) = codes "position" ++ behind_blank channel
event_line (event.Receive channel entry) = codes "receive" ++ behind_blank channel ++ codes " " ++ gtid_text entry.gtid
event_line (event.Take seat channel place) = codes "take" ++ behind_blank seat ++ behind_blank channel ++ behind_blank place
event_line (event.Commit seat) = codes "commit" ++ behind_blank seat
event_line (event.Rollback seat) = codes "rollback" ++ behind_blank seat
event_line (event.Restart channel) = codes "restart" ++ behind_blank channel
event_line (event.Local txn) = codes "local"
event_line (event.Purge len) = codes "purge" ++ behind_blank len
event_line event.Look = codes "look"
