-- A replica once its seats have done what was left to do.
use Rattle.std.specs.Prelude.{◌≡◌, ◌⊎◌, ℕ, ◌<◌, true, false, List, Option, Some, None, length, option_map, slice_get}
use Rattle.std.specs.FinSet as set
use Rattle.std.specs.FinMap as finmap
use Rattle.gtid_text.specs.declared.Gtid.{Gtid}
use Rattle.apply_channel.specs.Channels.{ChannelValue, Received}
use Rattle.replica_core.specs.State.{State}

-- how many places a channel has, if there is that channel
abbrev pub places : State → ℕ → Option ℕ
places s c = option_map (λ (channel : ChannelValue). length channel.received) (slice_get s.channels c)

-- no seat has taken a place
abbrev pub NothingIsOwned : State → Type 0
NothingIsOwned s = (seat : ℕ) → finmap.get s.seats seat ≡ None

-- a channel is stopped, or the GTIDs at its places below n are executed
abbrev pub IsDoneBelow : ℕ → ℕ → State → Type 0
IsDoneBelow n c s = (channel : ChannelValue) → slice_get s.channels c ≡ Some channel
    → (channel.stopped ≡ true) ⊎ ((p : ℕ) (e : Received) → p < n → slice_get channel.received p ≡ Some e → set.contains s.executed e.gtid ≡ true)

-- a channel is stopped, or has all that it received executed
abbrev pub IsDone : ℕ → State → Type 0
IsDone c s = (channel : ChannelValue) → slice_get s.channels c ≡ Some channel
    → (channel.stopped ≡ true) ⊎ ((p : ℕ) (e : Received) → slice_get channel.received p ≡ Some e → set.contains s.executed e.gtid ≡ true)

-- each channel is stopped, or has all that it received executed
abbrev pub AreStoppedOrDone : State → Type 0
AreStoppedOrDone s = (c : ℕ) (channel : ChannelValue) → slice_get s.channels c ≡ Some channel
    → (channel.stopped ≡ true) ⊎ ((p : ℕ) (e : Received) → slice_get channel.received p ≡ Some e → set.contains s.executed e.gtid ≡ true)

-- a place is there, its channel runs, and its GTID is not executed
pub record IsWaiting (p c : ℕ) (s : State) : Type 0 where
  pub channel : ChannelValue
  pub entry : Received
  pub at : slice_get s.channels c ≡ Some channel
  pub runs : channel.stopped ≡ false
  pub there : slice_get channel.received p ≡ Some entry
  pub waits : set.contains s.executed entry.gtid ≡ false

-- a channel is stopped, or the GTID at a place, if there is one, is executed
abbrev pub IsSettledAt : ℕ → ℕ → State → Type 0
IsSettledAt p c s = (channel : ChannelValue) → slice_get s.channels c ≡ Some channel
    → (channel.stopped ≡ true) ⊎ ((e : Received) → slice_get channel.received p ≡ Some e → set.contains s.executed e.gtid ≡ true)

-- each entry after is of the GTID that was there before
abbrev pub SameGtids : List Received → List Received → Type 0
SameGtids old new = (p : ℕ) (e : Received) → slice_get new p ≡ Some e → (f : Received) × (slice_get old p ≡ Some f) × (e.gtid ≡ f.gtid)

-- a channel after was there before, with the same GTIDs, and is stopped if it was
abbrev pub SameChannels : List ChannelValue → List ChannelValue → Type 0
SameChannels old new = (c : ℕ) (after : ChannelValue) → slice_get new c ≡ Some after
    → (before : ChannelValue) × (slice_get old c ≡ Some before) × (before.stopped ≡ true → after.stopped ≡ true) × SameGtids before.received after.received

-- what is executed or stopped stays so, and nothing is received
pub record Follows (old new : State) : Type 0 where
  pub executed : (g : Gtid) → set.contains old.executed g ≡ true → set.contains new.executed g ≡ true
  pub channels : SameChannels old.channels new.channels
