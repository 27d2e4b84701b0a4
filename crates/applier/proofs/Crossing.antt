-- What may cross threads, type by type: one search over all fields of a shared replica would give up at its limit.
use Rattle.std.proofs.sync.ledger.Book.TheSendSync.{the_send as books}
use Rattle.std.proofs.sync.ledger.Share.TheSendSync.{the_send as shares}
use denote.RattleType.{RattleType}
use denote.Enum.Enum.{Enum}
use denote.Enum.Declared.{shape}
use denote.Struct.Struct.{Struct}
use denote.Struct.Declared.{shape as struct_shape}
use denote.Param.Send.{IsSend, IsSync, sendable, enum_send, enum_sync, recorded_send, struct_send, struct_sync}
use Rattle.std.proofs.Crossing as plain
use Rattle.std.proofs.MapsCrossing as maps
use Rattle.std.proofs.CrossingOver as over
use Rattle.gtid_set.specs.contracts.GtidSet as GtidSet
use Rattle.rows.specs.contracts.rows.Rows as Rows
use Rattle.row_images.specs.contracts.key_values.KeyValues as KeyValues
use Rattle.rows.specs.contracts.name.Name as Name
use Rattle.rows.specs.contracts.change.Changes as Changes
use Rattle.rows.specs.contracts.schema.Schema as Schema
use Rattle.apply_channel.specs.contracts.slot.ReceivedSlot as Slot
use Rattle.journal.specs.contracts.Journal as Journal
use Rattle.relay.specs.contracts.OwnJournal as OwnJournal
use Rattle.dependency_graph.specs.contracts.graph.Graph as Graph
use Rattle.apply_channel.specs.contracts.channel.Channel as Channel
use Rattle.replica_core.specs.contracts.machine.Core as Core
use Rattle.replica_core.specs.contracts.event.Event as Event
use Rattle.replica_core.specs.contracts.event.Reply as Reply
use Rattle.shared_replica.specs.contracts.step.Step as Step
use Rattle.shared_replica.specs.contracts.step.Sheet as Sheet
use Rattle.shared_replica.specs.contracts.replica.SharedReplica as Shared
use Rattle.shared_replica.specs.contracts.book.Book as Book
use Rattle.shared_replica.specs.declared.naming.Naming.{Ghosts}
use Rattle.commit_ledger.specs.contracts.Total as Total
use Rattle.commit_ledger.specs.declared.naming.Ledgers.{Ghosts as LedgerGhosts}

ruleset crosses = (sendable, plain.crosses, maps.crosses)

set_send : IsSend GtidSet.the_row
set_send = search crosses depth 100 fits 100000

set_sync : IsSync GtidSet.the_row
set_sync = search crosses depth 100 fits 100000

key_values_send : IsSend KeyValues.the_row
key_values_send = search crosses depth 100 fits 100000

graph_send : IsSend Graph.the_row
graph_send = search (key_values_send, crosses, over.crosses) depth 100 fits 100000

rows_send : IsSend Rows.the_row
rows_send = search (key_values_send, crosses) depth 100 fits 100000

changes_send : IsSend Changes.the_row
changes_send = search crosses depth 100 fits 100000

changes_sync : IsSync Changes.the_row
changes_sync = search crosses depth 100 fits 100000

journal_send : IsSend Journal.the_row
journal_send = search (changes_send, set_send, crosses) depth 100 fits 100000

own_send : IsSend OwnJournal.the_row
own_send = search (journal_send, set_send, crosses) depth 100 fits 100000

slot_send : IsSend Slot.the_row
slot_send = search (changes_send, crosses) depth 100 fits 100000

name_send : IsSend Name.the_row
name_send = search crosses depth 100 fits 100000

name_sync : IsSync Name.the_row
name_sync = search crosses depth 100 fits 100000

schema_send : IsSend Schema.the_row
schema_send = search crosses depth 100 fits 100000

channel_send : IsSend Channel.the_row
channel_send = search (schema_send, name_send, slot_send, set_send, graph_send, crosses) depth 100 fits 100000

core_send : IsSend Core.the_row
core_send = search (crosses, rows_send, own_send, channel_send) depth 100 fits 100000

event_send : IsSend (Enum (shape Event.the_type))
event_send = enum_send (shape Event.the_type) ((search (name_send, crosses) depth 100 fits 100000, (search sendable, tt)), ((search sendable, tt), ((search sendable, (search (changes_send, crosses) depth 100 fits 100000, tt)), ((search sendable, (search sendable, (search sendable, tt))), ((search sendable, tt), ((search sendable, tt), ((search sendable, tt), ((search (name_send, crosses) depth 100 fits 100000, tt), ((search sendable, tt), (tt, tt))))))))))

event_sync : IsSync (Enum (shape Event.the_type))
event_sync = enum_sync (shape Event.the_type) ((search (name_sync, crosses) depth 100 fits 100000, (search sendable, tt)), ((search sendable, tt), ((search sendable, (search (changes_sync, crosses) depth 100 fits 100000, tt)), ((search sendable, (search sendable, (search sendable, tt))), ((search sendable, tt), ((search sendable, tt), ((search sendable, tt), ((search (name_sync, crosses) depth 100 fits 100000, tt), ((search sendable, tt), (tt, tt))))))))))

reply_send : IsSend (Enum (shape Reply.the_type))
reply_send = search (set_send, crosses) depth 100 fits 100000

reply_sync : IsSync (Enum (shape Reply.the_type))
reply_sync = search (set_sync, crosses) depth 100 fits 100000

step_send : IsSend (Struct (struct_shape Step.the_type))
step_send = struct_send (struct_shape Step.the_type) (event_send, (reply_send, tt))

step_sync : IsSync (Struct (struct_shape Step.the_type))
step_sync = struct_sync (struct_shape Step.the_type) (event_sync, (reply_sync, tt))

whole_step_send : IsSend Step.the_row
whole_step_send = search (step_send, recorded_send)

sheet_sync : IsSync Sheet.the_row
sheet_sync = search (step_sync, crosses) depth 100 fits 100000

total_send : (L : RattleType) (l : LedgerGhosts L.Denot) → IsSend (Total.the_row L l)
total_send L l = search (books, shares, crosses) depth 100 fits 100000

book_send : (N : RattleType) (n : Ghosts N.Denot) → IsSend (Book.the_row N n)
book_send N n = search (total_send, core_send, whole_step_send, crosses) depth 100 fits 100000

-- any thread may share a shared replica
pub replica_sync : (N : RattleType) (n : Ghosts N.Denot) → IsSync (Shared.the_row N n)
replica_sync N n = search (book_send, sheet_sync, crosses) depth 100 fits 100000
