-- What a seat may take, and what it gives up by a Commit.
use Rattle.std.proofs.Common.{◌≡◌, ℕ, Bool, true, false, cond, not, refl, sym, ap, subst, ◌∙◌}
use Rattle.std.specs.Prelude.{Some, None, All, slice_get, option_and_then}
use Rattle.std.specs.FinSet as set
use Rattle.std.specs.FinMap as finmap
use Rattle.apply_channel.specs.Channels.{ChannelValue, Received}
use Rattle.replica_core.specs.declared.event.Spot.{Spot}
use Rattle.gtid_text.specs.declared.Gtid.{Gtid}
use Rattle.rows.specs.declared.change.Transaction.{Transaction}
use Rattle.rows.specs.Apply.{apply}
use Rattle.rows.specs.Fits.{Fits}
use Rattle.replica_core.specs.State.{Site, State, Replica, owner}
use Rattle.replica_core.specs.Machine.{is_seat, open_before, commit, commit_answer}
use Rattle.replica_core.specs.Committing.{IsCommittable}
use Rattle.replica_core.specs.Kept.{IsKept}
use Rattle.replica_core.specs.Seated.{AreSeated, IsUnowned, MayHave}
use Rattle.replica_core.proofs.KeptLemmas.{found}
use Rattle.replica_core.proofs.OwnerLemmas.{unowned_is}
use Rattle.replica_core.proofs.SeatLemmas.{free_after}

pub may_have : (r : Replica) (c p : ℕ) (channel : ChannelValue) (e : Received) → slice_get r.state.channels c ≡ Some channel → slice_get channel.received p ≡ Some e → All (IsKept r.site.schema r.state.executed) channel.received → set.contains r.state.executed e.gtid ≡ false → owner r.state e.gtid ≡ None → AreSeated r.state.channels r.state.seats → MayHave r.state.channels r.state.seats (record { channel = c; place = p })
may_have r c p channel e is at kept new none seated = record {
  entry = e;
  at = ap (option_and_then (λ (x : ChannelValue). slice_get x.received p)) is ∙ at;
  waits = (found (IsKept r.site.schema r.state.executed) channel.received p e kept at).waits ∙ ap not new;
  free = unowned_is r.state e.gtid none seated;
}

-- once a seat has given up its place, no seat has a place of its GTID
pub alone_after : (r : Replica) (seat : ℕ) (spot : Spot) (channel : ChannelValue) (e : Received) → finmap.get r.state.seats seat ≡ Some spot → slice_get r.state.channels spot.channel ≡ Some channel → slice_get channel.received spot.place ≡ Some e → AreSeated r.state.channels r.state.seats → IsUnowned r.state.channels (finmap.remove r.state.seats seat) e.gtid
alone_after r seat spot channel e has is at seated =
    free_after r.state.channels r.state.seats seat e (spot, has, ap (option_and_then (λ (x : ChannelValue). slice_get x.received spot.place)) is ∙ at) seated

not_executed : (b : Bool) → ◌≡◌ {A = Bool} true (not b) → b ≡ false
not_executed true h = absurd (cc h)
not_executed false h = refl

-- what a seat has may be committed
pub committable : (r : Replica) (seat : ℕ) (spot : Spot) (channel : ChannelValue) (g : Gtid) (t u : Transaction) → u ≡ t → is_seat seat ≡ true → finmap.get r.state.seats seat ≡ Some spot → slice_get r.state.channels spot.channel ≡ Some channel → slice_get channel.received spot.place ≡ Some (record { gtid = g; txn = Some t }) → All (IsKept r.site.schema r.state.executed) channel.received → AreSeated r.state.channels r.state.seats → IsCommittable r (Some seat) (record { gtid = g; txn = u })
committable r seat spot channel g t u same one has is at kept seated =
    let e : Received = record { gtid = g; txn = Some t } in
    let keeps = found (IsKept r.site.schema r.state.executed) channel.received spot.place e kept at in
    record {
      new = not_executed (set.contains r.state.executed g) keeps.waits;
      fits = subst (λ (x : Transaction). Fits r.site.schema x) (sym same) keeps.fits;
      number = keeps.number;
      seat = one;
      alone = alone_after r seat spot channel e has is at seated;
    }

-- the answer to its Commit
pub commit_is : (site : Site) (s : State) (seat : ℕ) (spot : Spot) (channel : ChannelValue) (g : Gtid) (t u : Transaction) → u ≡ t → is_seat seat ≡ true → finmap.get s.seats seat ≡ Some spot → slice_get s.channels spot.channel ≡ Some channel → slice_get channel.received spot.place ≡ Some (record { gtid = g; txn = Some t }) → cond channel.preserve (open_before s channel spot.place) None ≡ None → commit site seat s ≡ commit_answer g u seat spot.channel s (apply site.schema u s.rows)
commit_is site s seat spot channel g t u same one has is at none = simp (one, has, is, at, none, same) refl
