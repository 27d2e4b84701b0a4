-- Laws of runs.
use Rattle.std.specs.Prelude.{◌≡◌, ℕ, true, All, List, take, slice_get, Some}
use Rattle.std.specs.FinSet as set
use Rattle.std.specs.FinMap as finmap
use Rattle.gtid_text.specs.declared.Gtid.{Gtid}
use Rattle.apply_channel.specs.Channels.{ChannelValue}
use Rattle.replica_core.specs.declared.event.Spot.{Spot}
use Rattle.replica_core.specs.declared.event.Event.{Event}
use Rattle.replica_core.specs.declared.event.Event.TheVariants as event
use Rattle.replica_core.specs.declared.event.Reply.TheVariants.{Committed}
use Rattle.replica_core.specs.State.{Site, State}
use Rattle.replica_core.specs.Machine.{replies, after}

-- all entries of a channel before a place are executed
abbrev pub AreExecutedBefore : State → ChannelValue → ℕ → Type 0
AreExecutedBefore s channel place = All (λ e. set.contains s.executed e.gtid ≡ true) (take place channel.received)

-- in a state, what a seat has is a place of a channel that preserves order
pub record HasInOrder (s : State) (seat : ℕ) (spot : Spot) (channel : ChannelValue) : Type 0 where
  pub has : finmap.get s.seats seat ≡ Some spot
  pub at : slice_get s.channels spot.channel ≡ Some channel
  pub preserves : channel.preserve ≡ true

-- the i-th event of a run is a Commit of a seat, with the reply Committed
pub record CommitsAt (site : Site) (start : State) (events : List Event) (i seat : ℕ) (g : Gtid) : Type 0 where
  pub asked : slice_get events i ≡ Some (event.Commit seat)
  pub replied : slice_get (replies site start events) i ≡ Some (Committed g)

-- on a channel that preserves order every Committed finds all earlier places of that channel executed
abbrev pub OrderIsPreserved : Type 0
OrderIsPreserved =
    (site : Site) (start : State) (events : List Event) (i seat : ℕ) (g : Gtid) (spot : Spot) (channel : ChannelValue) → CommitsAt site start events i seat g → HasInOrder (after site start (take i events)) seat spot channel → AreExecutedBefore (after site start (take i events)) channel spot.place
