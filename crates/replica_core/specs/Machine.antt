-- The machine of a replica: one event, one reply and a new state. The replies are in the order in which they are tested.
use Rattle.std.specs.Prelude.{◌≡◌, All, ℕ, ◌-◌, Bool, true, false, not, ◌&&◌, nat_le, nat_lt, List, [], ◌∷◌, ◌++◌, map, length, take, slice_get, slice_set, position, find, Option, None, option_map, option_and_then, is_none, Result, Ok, Err, if◌then◌else◌}
use Rattle.std.specs.List.{list_any, list_all, range_with_len}
use Rattle.std.specs.Option.{option_map_or}
use Rattle.std.specs.FinSet as set
use Rattle.std.specs.FinMap as finmap
use Rattle.gtid_text.specs.declared.Gtid.{Gtid}
use Rattle.gtid_set.specs.Sets.{Gtids, gtid, least_number}
use Rattle.rows.specs.declared.change.RowFault.{RowFault}
use Rattle.rows.specs.declared.change.Transaction.{Transaction}
use Rattle.rows.specs.declared.schema.Table.{Table}
use Rattle.rows.specs.Apply.{Rows, apply}
use Rattle.rows.specs.Fits.{misfit}
use Rattle.rows.specs.Conflicts.{conflicts}
use Rattle.journal.specs.declared.Entry.{Entry}
use Rattle.journal.specs.Journals.{previous_after_purge}
use Rattle.journal.specs.Writing.{is_number}
use Rattle.relay.specs.Own.{with_last, purge_to}
use Rattle.apply_channel.specs.Channels.{ChannelValue, Received, with_stopped, with_asked, new_channel, settle_channel, with_received, received_as, received_gtids, same_name, is_full}
use Rattle.replica_core.specs.declared.event.Spot.{Spot}
use Rattle.replica_core.specs.declared.event.Event.{Event}
use Rattle.replica_core.specs.declared.event.Event.TheVariants as event
use Rattle.replica_core.specs.declared.event.Reply.{Reply}
use Rattle.replica_core.specs.declared.event.Reply.TheVariants.{NameTaken, ChannelsFull, Opened, NoChannel, Ask, NotPositioned, NotInSchema, ChannelFull, NoSeat, SeatBusy, NoPlace, Stopped, Done, OwnedBy, Blocked, Taken, SeatIdle, Early, RowRefused, Committed, RolledBack, Restarted, NumbersUsedUp, LocalRefused, TooMany, Purged, Shown}
use Rattle.replica_core.specs.declared.event.Reply.TheVariants as reply
use Rattle.replica_core.specs.State.{Site, State, owned_by, owner}

-- a reply, and the state after it
abbrev pub Step : Type 0
Step = Reply × State

-- ---- parts

abbrev pub is_seat : ℕ → Bool
is_seat seat = nat_le 1 seat && nat_le seat 64

-- the set that a channel asks with: what is executed, and what it has received itself
abbrev pub ask : State → ChannelValue → Gtids
ask s channel = set.union s.executed (received_gtids channel.received)

-- an earlier entry whose GTID is not executed
abbrev pub is_open : State → Received → Bool
is_open s e = not (set.contains s.executed e.gtid)

-- an earlier entry whose GTID is not executed, and that conflicts with a transaction
abbrev pub is_in_the_way : List Table → State → Transaction → Received → Bool
is_in_the_way schema s t e = is_open s e && option_map_or (λ u. conflicts schema u t) e.txn false

-- the least earlier place that blocks a place
abbrev pub blocking : List Table → State → ChannelValue → ℕ → Transaction → Option ℕ
blocking schema s channel place t = position (is_in_the_way schema s t) (take place channel.received)

-- the least earlier place that is not executed
abbrev pub open_before : State → ChannelValue → ℕ → Option ℕ
open_before s channel place = position (is_open s) (take place channel.received)

-- an element changed, if it is there
abbrev pub change_at : {X : Type 0} → ℕ → (X → X) → List X → List X
change_at i f xs = option_map_or (λ x. slice_set xs i (f x)) (slice_get xs i) xs

abbrev pub with_channel : State → ℕ → ChannelValue → State
with_channel s c channel = record s { channels = slice_set s.channels c channel }

abbrev pub without_seat : State → ℕ → State
without_seat s seat = record s { seats = finmap.remove s.seats seat }

abbrev pub take_seat : ℕ → ℕ → ℕ → State → State
take_seat seat c p s = record s { seats = finmap.insert s.seats seat (record { channel = c; place = p }) }

-- a GTID is executed: its transaction is in the rows and at the end of the own journal, and in no channel
abbrev pub execute : State → Gtid → Transaction → Rows → State
execute s g t rows = record s {
  executed = set.insert s.executed g;
  rows = rows;
  channels = map (settle_channel g) s.channels;
  journal = with_last (record { gtid = g; txn = t }) s.journal;
}

-- if the schema takes a transaction, the rest decides; else the reply names the first change that it does not take
abbrev pub if_fits : Site → Transaction → Step → State → Step
if_fits site t next s = option_map_or (λ fault. (NotInSchema fault, s)) (misfit site.schema t) next

-- ---- the events

abbrev pub open_channel : List ℕ → Bool → State → Step
open_channel name preserve s =
    if list_any (λ c. same_name c.name name) s.channels then (NameTaken, s) else
    if nat_le 256 (length s.channels) then (ChannelsFull, s) else
    (Opened (length s.channels), record s { channels = s.channels ++ new_channel name preserve ∷ [] })

abbrev pub at_channel : State → ℕ → (ChannelValue → Step) → Step
at_channel s c f = option_map_or f (slice_get s.channels c) (NoChannel, s)

abbrev pub position_on : ℕ → State → Step
position_on c s = at_channel s c (λ channel. (Ask (ask s channel), with_channel s c (with_asked (ask s channel) channel)))

abbrev pub receive : Site → ℕ → Entry → State → Step
receive site c entry s = at_channel s c (λ channel.
    option_map_or (λ asked.
    if_fits site entry.txn (
    if is_full channel then (ChannelFull, s) else (
      reply.Received (length channel.received),
      with_channel s c (with_received (received_as (set.contains s.executed entry.gtid) entry) channel),
    )) s)
    channel.asked (NotPositioned, s))

-- the place is there, and its channel is not stopped
abbrev pub take_entry : Site → ℕ → ℕ → ℕ → ChannelValue → Received → State → Step
take_entry site seat c p channel e s =
    if channel.stopped then (Stopped, s) else
    if set.contains s.executed e.gtid then (Done e.gtid, s) else
    option_map_or (λ other. (OwnedBy other, s)) (owner s e.gtid) (
    option_map_or (λ q. (Blocked q, s)) (option_map_or (blocking site.schema s channel p) e.txn None) (
    (Taken e.gtid, take_seat seat c p s)))

abbrev pub take_place : Site → ℕ → ℕ → ℕ → State → Step
take_place site seat c p s =
    if not (is_seat seat) then (NoSeat, s) else
    option_map_or (λ g. (SeatBusy g, s)) (owned_by s seat) (
    at_channel s c (λ channel.
    option_map_or (λ e. take_entry site seat c p channel e s) (slice_get channel.received p) (NoPlace, s)))

-- what a seat holds: the place that it took, with its channel, GTID and transaction
pub record Held : Type 0 where
  pub spot : Spot
  pub channel : ChannelValue
  pub gtid : Gtid
  pub txn : Transaction

abbrev pub held_of : Spot → ChannelValue → Received → Option Held
held_of spot channel e = option_map (λ t. record { spot = spot; channel = channel; gtid = e.gtid; txn = t }) e.txn

abbrev pub held_at : State → Spot → Option Held
held_at s spot = option_and_then (λ channel. option_and_then (held_of spot channel) (slice_get channel.received spot.place)) (slice_get s.channels spot.channel)

abbrev pub held : State → ℕ → Option Held
held s seat = option_and_then (held_at s) (finmap.get s.seats seat)

-- a seat with what it holds
abbrev pub at_seat : State → ℕ → (Held → Step) → Step
at_seat s seat f =
    if not (is_seat seat) then (NoSeat, s) else
    option_map_or f (held s seat) (SeatIdle, s)

-- a channel is stopped, or runs again
abbrev pub set_stopped_at : Bool → ℕ → List ChannelValue → List ChannelValue
set_stopped_at flag c channels = change_at c (with_stopped flag) channels

abbrev pub stopping : ℕ → State → State
stopping c s = record s { channels = set_stopped_at true c s.channels }

abbrev pub commit_answer : Gtid → Transaction → ℕ → ℕ → State → Result Rows RowFault → Step
commit_answer g t seat c s (Ok rows) = (Committed g, execute (without_seat s seat) g t rows)
commit_answer g t seat c s (Err fault) = (RowRefused g fault, stopping c (without_seat s seat))

abbrev pub commit_held : Site → ℕ → State → Held → Step
commit_held site seat s h =
    option_map_or (λ q. (Early q, s)) (if h.channel.preserve then open_before s h.channel h.spot.place else None) (
    commit_answer h.gtid h.txn seat h.spot.channel s (apply site.schema h.txn s.rows))

abbrev pub commit : Site → ℕ → State → Step
commit site seat s = at_seat s seat (commit_held site seat s)

abbrev pub rollback : ℕ → State → Step
rollback seat s = at_seat s seat (λ h. (RolledBack h.gtid, without_seat s seat))

abbrev pub restart : ℕ → State → Step
restart c s = at_channel s c (λ channel. (Restarted, with_channel s c (with_stopped false channel)))

-- a number of the own UUID that is neither executed nor owned now
abbrev pub is_free : Site → State → ℕ → Bool
is_free site s n = not (set.contains s.executed (gtid site.own n)) && is_none (owner s (gtid site.own n))

-- the least one
abbrev pub next_number : Site → State → Option ℕ
next_number site s = least_number (is_free site s)

abbrev pub local_answer : Gtid → Transaction → State → Result Rows RowFault → Step
local_answer g t s (Ok rows) = (Committed g, execute s g t rows)
local_answer g t s (Err fault) = (LocalRefused fault, s)

abbrev pub local : Site → Transaction → State → Step
local site t s =
    if_fits site t (
    option_map_or (λ n. local_answer (gtid site.own n) t s (apply site.schema t s.rows)) (next_number site s) (NumbersUsedUp, s)) s

abbrev pub purge : ℕ → State → Step
purge k s =
    if nat_lt (length s.journal.entries) k then (TooMany (length s.journal.entries), s) else
    (Purged (previous_after_purge k s.journal), record s { journal = purge_to k s.journal })

abbrev pub look : State → Step
look s = (Shown s.executed, s)

-- ---- the machine

abbrev pub step : Site → State → Event → Step
step site s (event.OpenChannel name preserve) = open_channel name preserve s
step site s (event.Position c) = position_on c s
step site s (event.Receive c entry) = receive site c entry s
step site s (event.Take seat c p) = take_place site seat c p s
step site s (event.Commit seat) = commit site seat s
step site s (event.Rollback seat) = rollback seat s
step site s (event.Restart c) = restart c s
step site s (event.Local changes) = local site changes s
step site s (event.Purge k) = purge k s
step site s event.Look = look s

-- ---- runs

-- the state in which a run begins: with this executed set, which is purged, these rows and nothing else
abbrev pub opening : Gtids → Rows → State
opening executed rows = record { executed = executed; rows = rows; seats = finmap.empty; channels = []; journal = record { previous = executed; entries = [] } }

-- the replies to events in turn
abbrev pub replies : Site → State → List Event → List Reply
replies site s [] = []
replies site s (e ∷ es) = (step site s e).0 ∷ replies site (step site s e).1 es

-- the state after them
abbrev pub after : Site → State → List Event → State
after site s [] = s
after site s (e ∷ es) = after site (step site s e).1 es

-- ---- queries

-- every received GTID is executed
abbrev pub drained : State → Bool
drained s = list_all (λ channel. list_all (λ e. set.contains s.executed e.gtid) channel.received) s.channels

-- a place of a channel that a seat may take: its GTID is neither executed nor owned, and no earlier place blocks it
abbrev pub is_free_at : List Table → State → ChannelValue → ℕ → Received → Bool
is_free_at schema s channel place e =
    is_open s e && (is_none (option_map_or (blocking schema s channel place) e.txn None) && is_none (owner s e.gtid))

abbrev pub is_ready : List Table → State → ChannelValue → ℕ → Bool
is_ready schema s channel place = option_map_or (is_free_at schema s channel place) (slice_get channel.received place) false

-- the least such place from this one on
abbrev pub ready_from : List Table → State → ChannelValue → ℕ → Option ℕ
ready_from schema s channel from = find (is_ready schema s channel) (range_with_len from (length channel.received - from))

abbrev pub next_ready : Site → State → ℕ → ℕ → Option ℕ
next_ready site s c from = option_and_then (λ channel. ready_from site.schema s channel from) (slice_get s.channels c)

-- ---- what an event may have

-- the number of a received GTID is in range
abbrev pub is_numbered : Event → Bool
is_numbered (event.OpenChannel name preserve) = true
is_numbered (event.Position c) = true
is_numbered (event.Receive c entry) = is_number entry.gtid.number
is_numbered (event.Take seat c p) = true
is_numbered (event.Commit seat) = true
is_numbered (event.Rollback seat) = true
is_numbered (event.Restart c) = true
is_numbered (event.Local changes) = true
is_numbered (event.Purge k) = true
is_numbered event.Look = true

abbrev pub AreNumbered : List Event → Type 0
AreNumbered events = All (λ e. is_numbered e ≡ true) events
