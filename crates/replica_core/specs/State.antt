-- The state of a replica.
use Rattle.std.specs.Prelude.{ℕ, Bool, false, List, Option, slice_get, find, option_map, option_and_then}
use Rattle.std.specs.List.{range_with_len, filter_map}
use Rattle.std.specs.Option.{option_map_or}
use Rattle.std.specs.Ordering.{nat_cmp}
use Rattle.std.specs.FinMap as map
use Rattle.gtid_text.specs.declared.Gtid.{Gtid}
use Rattle.gtid_text.specs.Gtids.{same_gtid}
use Rattle.gtid_set.specs.Sets.{Gtids}
use Rattle.rows.specs.Apply.{Rows}
use Rattle.rows.specs.declared.schema.Table.{Table}
use Rattle.journal.specs.Journals.{JournalValue}
use Rattle.apply_channel.specs.Channels.{ChannelValue, Received}
use Rattle.replica_core.specs.declared.event.Spot.{Spot}

-- what never changes: the own UUID and the schema
pub record Site : Type 0 where
  pub own : ℕ
  pub schema : List Table

-- a seat has the place that it took: a finite map from seats to (channel, place)
abbrev pub Seats : Type 0
Seats = map.FinMap nat_cmp Spot

pub record State : Type 0 where
  pub executed : Gtids
  pub rows : Rows
  pub seats : Seats
  pub channels : List ChannelValue
  pub journal : JournalValue

pub record Replica : Type 0 where
  pub site : Site
  pub state : State

-- the entry at a place
abbrev pub entry_at : State → Spot → Option Received
entry_at s spot = option_and_then (λ channel. slice_get channel.received spot.place) (slice_get s.channels spot.channel)

-- the GTID at a place
abbrev pub gtid_at : State → Spot → Option Gtid
gtid_at s spot = option_map (λ e. e.gtid) (entry_at s spot)

-- the GTID that a seat owns: that of the place that it took
abbrev pub owned_by : State → ℕ → Option Gtid
owned_by s seat = option_map (λ e. e.gtid) (option_and_then (entry_at s) (map.get s.seats seat))

abbrev pub owns : State → Gtid → ℕ → Bool
owns s gtid seat = option_map_or (λ g. same_gtid g gtid) (owned_by s seat) false

-- the numbers of the seats
unfoldable pub seat_numbers : List ℕ
seat_numbers = range_with_len 1 64

-- the seat that owns a GTID
abbrev pub owner : State → Gtid → Option ℕ
owner s gtid = find (owns s gtid) seat_numbers

-- a seat with the GTID that it owns
abbrev pub with_gtid : State → ℕ → Option (ℕ × Gtid)
with_gtid s seat = option_map (λ g. (seat, g)) (owned_by s seat)

-- what the seats own, seats ascending
abbrev pub owned : State → List (ℕ × Gtid)
owned s = filter_map (with_gtid s) seat_numbers
