-- What every faithful run keeps.
use Rattle.std.proofs.Common.{◌≡◌, ℕ, ◌<◌, Bool, true, false, ◌⊎◌, List, Some, Ok}
use Rattle.std.specs.Prelude.{slice_get, IsOk, option_map, option_and_then, [], ◌∷◌, Option}
use Rattle.history.proofs.Covering.{has}
use Rattle.std.specs.FinMap as finmap
use Rattle.std.specs.FinSet as set
use Rattle.rows.specs.declared.change.Transaction.{Transaction}
use Rattle.rows.specs.Conflicts.{conflicts}
use Rattle.gtid_text.specs.declared.Gtid.{Gtid}
use Rattle.gtid_set.specs.Sets.{Gtids}
use Rattle.journal.specs.declared.Entry.{Entry}
use Rattle.apply_channel.specs.Channels.{ChannelValue, Received}
use Rattle.replica_core.specs.declared.event.Spot.{Spot}
use Rattle.replica_core.specs.declared.event.Event.{Event}
use Rattle.replica_core.specs.State.{State, Site, Seats}
use Rattle.replica_core.specs.Machine.{Step, is_seat}
use Rattle.history.specs.World.{OrderedWorld, content, rows_of, apply_all, Precedes, IsClosed}
use Rattle.history.specs.Faithful.{IsFaithful}
use Rattle.convergence.specs.Faithful.{Since, since_after, IsFaithfulStep, IsNotRefused}

-- all that was committed applies to the opening rows
abbrev pub AllApply : OrderedWorld → Type 0
AllApply world = IsOk (apply_all world.schema world.order world.opening_rows)

-- h comes before g in the world's order and conflicts with it
pub record Needs (world : OrderedWorld) (h g : Gtid) : Type 0 where
  pub t : Transaction
  pub u : Transaction
  pub content_h : content world h ≡ Some t
  pub content_g : content world g ≡ Some u
  pub before : Precedes world.order (h, t) (g, u)
  pub shares : conflicts world.schema t u ≡ true

-- a GTID is among what was received, and before a place
abbrev pub Stands : Gtid → List Received → Type 0
Stands h rs = (q : ℕ) × (f : Received) × (slice_get rs q ≡ Some f) × (f.gtid ≡ h)

abbrev pub StandsBefore : ℕ → Gtid → List Received → Type 0
StandsBefore p h rs = (q : ℕ) × (f : Received) × (slice_get rs q ≡ Some f) × (f.gtid ≡ h) × (q < p)

-- an entry is in a list
abbrev pub IsIn : Entry → List Entry → Type 0
IsIn c [] = ⊥
IsIn c (e ∷ es) = (e ≡ c) ⊎ IsIn c es

pub record IsGood (world : OrderedWorld) (ex : Gtid → Bool) (since : List Entry) (ch : ChannelValue) : Type 0 where
  -- where no history fails, no channel is stopped
  pub running : AllApply world → ch.stopped ≡ false
  -- what is not executed has its content
  pub known : (p : ℕ) (e : Received) → slice_get ch.received p ≡ Some e → ex e.gtid ≡ false → (t : Transaction) × (e.txn ≡ Some t) × (content world e.gtid ≡ Some t)
  -- what a place needs is executed or comes before it
  pub needed : (p : ℕ) (e : Received) (h : Gtid) → slice_get ch.received p ≡ Some e → Needs world h e.gtid → (ex h ≡ true) ⊎ StandsBefore p h ch.received
  -- what was asked with is executed or was received
  pub asked : (A : Gtids) → ch.asked ≡ Some A → (g : Gtid) → set.contains A g ≡ true → (ex g ≡ true) ⊎ Stands g ch.received
  -- what was received since then is there
  pub recent : (x : Entry) → IsIn x since → Stands x.gtid ch.received

abbrev pub AreGood : OrderedWorld → (Gtid → Bool) → Since → List ChannelValue → Type 0
AreGood world ex since channels = (c : ℕ) (ch : ChannelValue) → slice_get channels c ≡ Some ch → IsGood world ex (since c) ch

-- the GTID at a place
abbrev pub gtid_at : List ChannelValue → Spot → Option Gtid
gtid_at channels spot = option_map (λ (e : Received). e.gtid) (option_and_then (λ (channel : ChannelValue). slice_get channel.received spot.place) (slice_get channels spot.channel))

-- the GTID at a seat's place may be committed
pub record IsReady (world : OrderedWorld) (ex : Gtid → Bool) (channels : List ChannelValue) (spot : Spot) : Type 0 where
  pub gtid : Gtid
  pub there : gtid_at channels spot ≡ Some gtid
  pub new : ex gtid ≡ false
  pub needs : (h : Gtid) → Needs world h gtid → ex h ≡ true

pub record AreSeated (world : OrderedWorld) (ex : Gtid → Bool) (channels : List ChannelValue) (seats : Seats) : Type 0 where
  pub ready : (a : ℕ) (spot : Spot) → finmap.get seats a ≡ Some spot → IsReady world ex channels spot
  pub in_range : (a : ℕ) (spot : Spot) → finmap.get seats a ≡ Some spot → is_seat a ≡ true
  pub distinct : (a b : ℕ) (x y : Spot) (g : Gtid) → finmap.get seats a ≡ Some x → finmap.get seats b ≡ Some y → gtid_at channels x ≡ Some g → gtid_at channels y ≡ Some g → a ≡ b

pub record Invariant (world : OrderedWorld) (s : State) (since : Since) : Type 0 where
  pub closed : IsClosed world (set.contains s.executed)
  pub rows : rows_of world (set.contains s.executed) ≡ Ok s.rows
  pub channels : AreGood world (set.contains s.executed) since s.channels
  pub seats : AreSeated world (set.contains s.executed) s.channels s.seats
  pub journal : IsFaithful world s.journal
  pub recorded : (g : Gtid) → has s.journal g ≡ set.contains s.executed g

-- a step from a state with the invariant keeps it, and refuses no row
pub record Keeps (world : OrderedWorld) (site : Site) (s : State) (since : Since) (event : Event) (after : Step) : Type 0 where
  pub keeps : IsFaithfulStep world site s since event after.0 → Invariant world after.1 (since_after event after.0 since) × (AllApply world → IsNotRefused after.0)
