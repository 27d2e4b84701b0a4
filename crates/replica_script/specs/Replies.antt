-- The printed line of each reply of a network. The words and their order are our own; the numbers E19 and E20 are those of the printed refusals.
use Rattle.std.specs.Prelude.{ℕ, List, [], ◌++◌, codes}
use Rattle.auto_position.specs.declared.PositionFault.{PositionFault}
use Rattle.auto_position.specs.declared.PositionFault.TheVariants.{PurgedRequired, ReplicaHasMore, Set}
use Rattle.network.specs.declared.event.NetworkReply.{NetworkReply}
use Rattle.network.specs.declared.event.NetworkReply.TheVariants.{NoNode, NotHere, Refused, Nothing, Replied}
use Rattle.txn_journal.specs.WrittenSets.{set_text}
use Rattle.replica_lines.specs.Replies.{within, reply_line}

-- a line with its line feed
abbrev pub with_line_feed : List ℕ → List ℕ
with_line_feed line = line ++ codes "\n"

-- the GTIDs for which a source refuses to send: those that it has purged, or those of its own that it has no record of; a failed allocation
-- is no reply, and has no text
abbrev pub withheld_text : PositionFault → List ℕ
withheld_text (PurgedRequired gtids) = codes "E19 purged " ++ set_text gtids
withheld_text (ReplicaHasMore gtids) = codes "E20 has-more " ++ set_text gtids
withheld_text (Set fault) = []

-- the line of a network's reply, without its line feed
abbrev pub network_reply_line : NetworkReply → List ℕ
network_reply_line NoNode = codes "NoNode"
network_reply_line NotHere = codes "NotHere"
network_reply_line (Refused fault) = within (codes "Refused") (withheld_text fault)
network_reply_line Nothing = codes "Nothing"
network_reply_line (Replied told) = reply_line told
