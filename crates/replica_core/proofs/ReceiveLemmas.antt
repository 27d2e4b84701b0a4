-- What a Receive and a Local leave.
use Rattle.std.proofs.Common.{◌≡◌, ℕ, ◌+◌, ◌≤◌, ◌<◌, zero, suc, Bool, true, false, not, ◌&&◌, cond, Bor, List, refl, sym, ap, subst, ◌∙◌, arith, length}
use Rattle.std.specs.Prelude.{Option, Some, None, slice_get, is_none, is_some, option_copied, find}
use Rattle.std.specs.Option.{option_map_or}
use Rattle.std.specs.List.{range_with_len}
use Rattle.std.specs.FinSet as set
use Rattle.std.proofs.lemmas.Bool.Decides.{nat_tests}
use Rattle.rows.specs.declared.schema.Table.{Table}
use Rattle.rows.specs.Fits.{misfit, Fits}
use Rattle.gtid_set.specs.Sets.{Gtids, gtid, greatest, least_number}
use Rattle.journal.specs.declared.Entry.{Entry}
use Rattle.journal.specs.Writing.{is_number}
use Rattle.apply_channel.specs.Channels.{ChannelValue, with_received, received_as, is_full}
use Rattle.replica_core.specs.declared.event.Reply.TheVariants as reply
use Rattle.replica_core.specs.State.{Site, State, Seats}
use Rattle.replica_core.specs.Machine.{Step, receive, change_at, is_free, next_number}
use Rattle.replica_core.specs.Kept.{ChannelsValue}
use Rattle.replica_core.specs.Keyed.{with_channels, len_at, full_at}
use Rattle.replica_core.specs.Seated.{AreSeated, IsUnowned}
use Rattle.replica_core.specs.Core.{IsCore}
use Rattle.replica_core.proofs.OwnerLemmas.{unowned_is}
use Rattle.replica_core.proofs.KeptLemmas.{kept_entry, kept_received}
use Rattle.replica_core.proofs.SeatLemmas.{seated_changed, keeps_front}
use Rattle.std.proofs.lemmas.Bool.{false_from_ne_true}
use Rattle.lemmas.proofs.Options.{none_if}

-- ---- Receive

pub received_is : (site : Site) (s : State) (c : ℕ) (e : Entry) (channel : ChannelValue) (asked : Gtids) (place : ℕ) (list : List ChannelValue) → slice_get s.channels c ≡ Some channel → channel.asked ≡ Some asked → misfit site.schema e.txn ≡ None → is_full channel ≡ false → place ≡ length channel.received → list ≡ change_at c (with_received (received_as (set.contains s.executed e.gtid) e)) s.channels → ◌≡◌ {A = Step} (reply.Received place, record s { channels = list }) (receive site c e s)
received_is site s c e channel asked place list at is_asked fits full is_place is_list = simp (at, is_asked, fits, full, is_place, is_list) refl

-- a channel that took an entry was not full
pub was_not_full : (c : ℕ) (channels : List ChannelValue) (channel : ChannelValue) → slice_get channels c ≡ Some channel → (full_at c channels ≡ true → ⊥) → is_full channel ≡ false
was_not_full c channels channel at h = false_from_ne_true (is_full channel) (λ full. h (ap (λ o. option_map_or (λ (x : ChannelValue). is_full x) o false) at ∙ full))

pub len_is : (c : ℕ) (channels : List ChannelValue) (channel : ChannelValue) → slice_get channels c ≡ Some channel → len_at c channels ≡ length channel.received
len_is c channels channel at = ap (λ o. option_map_or (λ (x : ChannelValue). length x.received) o 0) at

some_of : (o : Option Gtids) → is_none o ≡ false → (asked : Gtids) × (o ≡ Some asked)
some_of None h = absurd (cc h)
some_of (Some asked) h = (asked, refl)

pub was_asked : (channel : ChannelValue) → is_none channel.asked ≡ false → (asked : Gtids) × (channel.asked ≡ Some asked)
was_asked channel h = some_of channel.asked h

-- what is kept, with one entry more
pub core_received : (schema : List Table) (channels new_channels : ChannelsValue) (executed : Gtids) (seats : Seats) (c : ℕ) (e : Entry) → IsCore schema channels executed seats → Fits schema e.txn → is_number e.gtid.number ≡ true → new_channels ≡ with_channels (change_at c (with_received (received_as (set.contains executed e.gtid) e)) channels.list) channels → IsCore schema new_channels executed seats
core_received schema channels new_channels executed seats c e core fits number more =
    let kept = kept_received schema executed c (received_as (set.contains executed e.gtid) e) channels.list (kept_entry schema executed e fits number) core.kept in
    let seated = seated_changed (with_received (received_as (set.contains executed e.gtid) e)) c channels.list seats (keeps_front (received_as (set.contains executed e.gtid) e)) core.seated in
    subst (λ (v : ChannelsValue). IsCore schema v executed seats) (sym more) (record { same = core.same; kept = kept; seated = seated })

-- ---- Local

pub found_by : (test : ℕ → Bool) (a n : ℕ) (b : Bool) (rest : Option ℕ) → test a ≡ b → (rest ≡ Some n → test n ≡ true) → cond b (Some a) rest ≡ Some n → test n ≡ true
found_by test a n true rest is h at = let same : a ≡ n = cc at in ap test (sym same) ∙ is
found_by test a n false rest is h at = h at

pub found_test : (test : ℕ → Bool) (m a n : ℕ) → find test (range_with_len a m) ≡ Some n → test n ≡ true
found_test test zero a n at = absurd (cc at)
found_test test (suc m) a n at = found_by test a n (test a) _ refl (found_test test m (a + 1) n) at

within_by : (a m n : ℕ) (b : Bool) (rest : Option ℕ) → (rest ≡ Some n → (a + 1 ≤ n) × (n < a + 1 + m)) → cond b (Some a) rest ≡ Some n → (a ≤ n) × (n < a + suc m)
within_by a m n true rest h at = let same : a ≡ n = cc at in (omega (arith, same), omega (arith, same))
within_by a m n false rest h at = let w = h at in (omega (arith, w.0), omega (arith, w.1))

pub found_within : (test : ℕ → Bool) (m a n : ℕ) → find test (range_with_len a m) ≡ Some n → (a ≤ n) × (n < a + m)
found_within test zero a n at = absurd (cc at)
found_within test (suc m) a n at = within_by a m n (test a) _ (found_within test m (a + 1) n) at

pub least_passes : (test : ℕ → Bool) (n : ℕ) → least_number test ≡ Some n → test n ≡ true
unfolding least_number
least_passes test n at = found_test test greatest 1 n at

in_range : (n : ℕ) → 1 ≤ n → n < 1 + greatest → is_number n ≡ true
in_range n low high = grind (arith, nat_tests, low, high)

pub least_is_number : (test : ℕ → Bool) (n : ℕ) → least_number test ≡ Some n → is_number n ≡ true
unfolding least_number
least_is_number test n at = let w = found_within test greatest 1 n at in in_range n w.0 w.1

front : (a b : Bool) → (not a && b) ≡ true → a ≡ false
front true b h = absurd (cc h)
front false b h = refl

-- the least free number is not executed
pub next_is_new : (site : Site) (s : State) (n : ℕ) → next_number site s ≡ Some n → set.contains s.executed (gtid site.own n) ≡ false
next_is_new site s n at = front (set.contains s.executed (gtid site.own n)) _ (least_passes (is_free site s) n at)

none_by : (a b : Bool) → (not a && b) ≡ true → b ≡ true
none_by true b h = absurd (cc h)
none_by false b h = h

-- and no seat has a place of it
pub next_is_unowned : (site : Site) (s : State) (n own : ℕ) → own ≡ site.own → next_number site s ≡ Some n → AreSeated s.channels s.seats → IsUnowned s.channels s.seats (gtid own n)
next_is_unowned site s n own same at seated =
    subst (λ (o : ℕ). IsUnowned s.channels s.seats (gtid o n)) (sym same)
    (unowned_is s (gtid site.own n) (none_if _ (none_by (set.contains s.executed (gtid site.own n)) _ (least_passes (is_free site s) n at))) seated)

-- a reference that is there points to something
pub there_is : {X : Type 0} (o : Option (Bor X)) (b : Bool) → is_some o ≡ not b → b ≡ false → is_none (option_copied o) ≡ false
there_is None b h e = absurd (cc (h ∙ ap not e))
there_is (Some x) b h e = refl
