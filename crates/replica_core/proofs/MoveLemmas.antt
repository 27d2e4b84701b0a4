-- What a take and its commit leave of a replica in which nothing is owned.
use Rattle.std.proofs.Common.{◌≡◌, inl, inr, ⊎_elim, true≢false, ℕ, ◌<◌, Bool, true, false, not, cond, List, map, take, refl, sym, ap, ◌∙◌, subst}
use Rattle.std.specs.Prelude.{Option, Some, None, All, Result, Ok, Err, slice_get, slice_set, option_map, option_and_then, is_some, ◌==◌, ◌||◌, ◌&&◌}
use Rattle.std.specs.Option.{option_map_or}
use Rattle.std.specs.Cmp.{nat_cmp_total, unsigned_tied}
use Rattle.std.specs.FinSet as set
use Rattle.std.specs.FinMap as finmap
use Rattle.lemmas.proofs.Lists.{get_map_cases}
use Rattle.lemmas.proofs.Numbers.{same_number, equal_numbers}
use Rattle.lemmas.proofs.SameGtid.{gtid_total}
use Rattle.gtid_text.specs.declared.Gtid.{Gtid}
use Rattle.gtid_text.specs.Gtids.{same_gtid}
use Rattle.gtid_set.specs.Sets.{Gtids}
use Rattle.gtid_set.proofs.SetLemmas.{gtid_tied, has_itself}
use Rattle.rows.specs.declared.schema.Table.{Table}
use Rattle.rows.specs.declared.change.RowFault.{RowFault}
use Rattle.rows.specs.declared.change.Transaction.{Transaction}
use Rattle.rows.specs.Apply.{Rows, apply}
use Rattle.rows.specs.Conflicts.{conflicts}
use Rattle.apply_channel.specs.Channels.{ChannelValue, Received, settle, settle_channel, with_stopped}
use Rattle.replica_core.specs.declared.event.Spot.{Spot}
use Rattle.replica_core.specs.declared.event.Reply.{Reply}
use Rattle.replica_core.specs.declared.event.Reply.TheVariants.{Taken}
use Rattle.replica_core.specs.declared.event.Event.TheVariants.{Take, Commit}
use Rattle.replica_core.specs.State.{Site, State, Seats, entry_at, owned_by, owner, owns, seat_numbers}
use Rattle.replica_core.specs.Kept.{IsKept, AreKept}
use Rattle.replica_core.specs.Machine.{Step, is_seat, is_open, is_in_the_way, blocking, open_before, step, take_seat, take_place, commit, commit_answer, execute, stopping, set_stopped_at, without_seat}
use Rattle.replica_core.proofs.KeptLemmas.{found}
use Rattle.replica_core.proofs.TakeLemmas.{commit_is}
use Rattle.replica_core.specs.Draining.{NothingIsOwned, IsDoneBelow, IsWaiting, IsSettledAt, Follows, SameGtids, SameChannels}
use Rattle.replica_core.proofs.LookLemmas.{one_value, found_in_set, set_here, position_none, find_none, all_before}
use Rattle.replica_core.proofs.FreeLemmas.{cleared, cleared_itself}

-- all earlier places of a channel are executed
abbrev pub IsFront : State → ChannelValue → ℕ → Type 0
IsFront s channel n = (p : ℕ) (e : Received) → p < n → slice_get channel.received p ≡ Some e → set.contains s.executed e.gtid ≡ true

-- ---- nothing is in the way

nothing_open : (s : State) (channel : ChannelValue) (n : ℕ) → IsFront s channel n → All (λ e. is_open s e ≡ false) (take n channel.received)
nothing_open s channel n front = all_before (λ (e : Received). is_open s e ≡ false) n channel.received (λ p e less at. ap not (front p e less at))

pub none_before : (s : State) (channel : ChannelValue) (n : ℕ) → IsFront s channel n → open_before s channel n ≡ None
none_before s channel n front = position_none (is_open s) (take n channel.received) (nothing_open s channel n front)

not_open : (schema : List Table) (s : State) (t : Transaction) (e : Received) → is_open s e ≡ false → is_in_the_way schema s t e ≡ false
not_open schema s t e shut = ap (λ b. b && option_map_or (λ u. conflicts schema u t) e.txn false) shut

none_in_the_way : (schema : List Table) (s : State) (channel : ChannelValue) (n : ℕ) (t : Transaction) → IsFront s channel n → blocking schema s channel n t ≡ None
none_in_the_way schema s channel n t front =
    position_none (is_in_the_way schema s t) (take n channel.received)
    (all_before (λ (e : Received). is_in_the_way schema s t e ≡ false) n channel.received (λ p e less at. not_open schema s t e (ap not (front p e less at))))

unblocked : (schema : List Table) (s : State) (channel : ChannelValue) (n : ℕ) (o : Option Transaction) → IsFront s channel n → option_map_or (blocking schema s channel n) o None ≡ None
unblocked schema s channel n None front = refl
unblocked schema s channel n (Some t) front = none_in_the_way schema s channel n t front

pub nothing_owned : (s : State) (seat : ℕ) → NothingIsOwned s → owned_by s seat ≡ None
nothing_owned s seat none = ap (λ (o : Option Spot). option_map (λ (e : Received). e.gtid) (option_and_then (entry_at s) o)) (none seat)

no_owner : (s : State) (g : Gtid) → NothingIsOwned s → owner s g ≡ None
no_owner s g none = find_none (owns s g) seat_numbers (λ seat. ap (λ (o : Option Gtid). option_map_or (λ (x : Gtid). same_gtid x g) o false) (nothing_owned s seat none))

-- ---- the take

pub took : (site : Site) (s : State) (seat c p : ℕ) (w : IsWaiting p c s) → is_seat seat ≡ true → NothingIsOwned s → IsFront s w.channel p → take_place site seat c p s ≡ (Taken w.entry.gtid, take_seat seat c p s)
took site s seat c p w one none front =
    let idle = nothing_owned s seat none in
    let free = no_owner s w.entry.gtid none in
    let ready = unblocked site.schema s w.channel p w.entry.txn front in
    simp (one, idle, w.at, w.there, w.runs, w.waits, free, ready) refl

-- ---- the commit

has_txn : (b : Bool) (o : Option Transaction) → is_some o ≡ not b → b ≡ false → (t : Transaction) × (o ≡ Some t)
has_txn b None h is = absurd (cc (h, is))
has_txn b (Some t) h is = (t, refl)

pub any_way : (b : Bool) (o : Option ℕ) → o ≡ None → cond b o None ≡ None
any_way true o none = none
any_way false o none = refl

pub put_there : (seats : Seats) (seat : ℕ) (spot : Spot) → finmap.get (finmap.insert seats seat spot) seat ≡ Some spot
put_there seats seat spot = finmap.get-insert nat_cmp_total seats seat spot seat ∙ ap (λ b. cond b (Some spot) (finmap.get seats seat)) (unsigned_tied seat seat ∙ same_number seat)

-- the answer to the commit of what was taken
pub record Answer (site : Site) (s : State) (c p : ℕ) (w : IsWaiting p c s) : Type 0 where
  pub txn : Transaction
  pub is : commit site 1 (take_seat 1 c p s) ≡ commit_answer w.entry.gtid txn 1 c (take_seat 1 c p s) (apply site.schema txn s.rows)

pub answered : (site : Site) (s : State) (c p : ℕ) (w : IsWaiting p c s) → AreKept site.schema s.executed s.channels → IsFront s w.channel p → Answer site s c p w
answered site s c p w kept front =
    let spot : Spot = record { channel = c; place = p } in
    let entries : All (IsKept site.schema s.executed) w.channel.received = found (λ (x : ChannelValue). All (IsKept site.schema s.executed) x.received) s.channels c w.channel kept w.at in
    let keeps : IsKept site.schema s.executed w.entry = found (IsKept site.schema s.executed) w.channel.received p w.entry entries w.there in
    let t = has_txn (set.contains s.executed w.entry.gtid) w.entry.txn keeps.waits w.waits in
    let there : slice_get w.channel.received p ≡ Some (record { gtid = w.entry.gtid; txn = Some t.0 }) = w.there ∙ ap (λ (o : Option Transaction). let e : Received = record { gtid = w.entry.gtid; txn = o } in Some e) t.1 in
    record {
      txn = t.0;
      is = commit_is site (take_seat 1 c p s) 1 spot w.channel w.entry.gtid t.0 t.0 refl refl (put_there s.seats 1 spot) w.at there (any_way w.channel.preserve (open_before s w.channel p) (none_before s w.channel p front));
    }

-- ---- what stays

pub same_gtids : (rs : List Received) → SameGtids rs rs
same_gtids rs p e at = (e, at, refl)

pub same_channels : (channels : List ChannelValue) → SameChannels channels channels
same_channels channels c after at = (after, at, (λ h. h), same_gtids after.received)

pub settle_gtid : (g : Gtid) (e : Received) (b : Bool) → same_gtid e.gtid g ≡ b → (settle g e).gtid ≡ e.gtid
settle_gtid g e b is = ap (λ x. (cond x (record e { txn = None }) e).gtid) is ∙ by b
  where
    by : (b : Bool) → (cond b (record e { txn = None }) e).gtid ≡ e.gtid
    by true = refl
    by false = refl

gtids_settled : (g : Gtid) (rs : List Received) → SameGtids rs (map (settle g) rs)
gtids_settled g rs p e at =
    let w = get_map_cases (settle g) rs p e at in
    (w.0, w.1, ap (λ (x : Received). x.gtid) (sym w.2) ∙ settle_gtid g w.0 (same_gtid w.0.gtid g) refl)

channels_settled : (g : Gtid) (channels : List ChannelValue) → SameChannels channels (map (settle_channel g) channels)
channels_settled g channels c after at =
    let w = get_map_cases (settle_channel g) channels c after at in (
      w.0,
      w.1,
      (λ h. ap (λ (x : ChannelValue). x.stopped) (sym w.2) ∙ h),
      subst (λ (x : ChannelValue). SameGtids w.0.received x.received) w.2 (gtids_settled g w.0.received),
    )

stopped_by : (c : ℕ) (channels : List ChannelValue) (x : ChannelValue) (k : ℕ) (after : ChannelValue) → slice_get channels c ≡ Some x
    → slice_get (slice_set channels c (with_stopped true x)) k ≡ Some after
    → (before : ChannelValue) × (slice_get channels k ≡ Some before) × (before.stopped ≡ true → after.stopped ≡ true) × SameGtids before.received after.received
stopped_by c channels x k after is at = elim (found_in_set channels c k (with_stopped true x) after at) [
  | inl w ↦ (x, ap (slice_get channels) w.0 ∙ is, (λ h. ap (λ (y : ChannelValue). y.stopped) w.1), subst (λ (y : ChannelValue). SameGtids x.received y.received) (sym w.1) (same_gtids x.received))
  | inr w ↦ (after, w, (λ h. h), same_gtids after.received)
]

channels_stopped : (c : ℕ) (channels : List ChannelValue) (x : ChannelValue) → slice_get channels c ≡ Some x → SameChannels channels (set_stopped_at true c channels)
channels_stopped c channels x is =
    subst (λ (o : Option ChannelValue). SameChannels channels (option_map_or (λ y. slice_set channels c (with_stopped true y)) o channels)) (sym is)
    (λ k after at. stopped_by c channels x k after is at)

-- ---- what both leave

pub record Settles (s u : State) (c p : ℕ) : Type 0 where
  pub rests : NothingIsOwned u
  pub follows : Follows s u
  pub done : IsSettledAt p c u

pub at_rest : (s : State) (seat : ℕ) (spot : Spot) → NothingIsOwned s → NothingIsOwned (without_seat (record s { seats = finmap.insert s.seats seat spot }) seat)
at_rest s seat spot none other = by (other == seat) refl
  where
    seats : Seats
    seats = finmap.insert s.seats seat spot

    first : other ≡ seat → finmap.get (finmap.remove seats seat) other ≡ None
    first same = ap (finmap.get (finmap.remove seats seat)) same ∙ cleared_itself seats seat

    by : (b : Bool) → (other == seat) ≡ b → finmap.get (finmap.remove seats seat) other ≡ None
    by true is = first (equal_numbers other seat is)
    by false is = cleared seats seat other (finmap.get-insert nat_cmp_total s.seats seat spot other ∙ ap (λ b. cond b (Some spot) (finmap.get s.seats other)) (unsigned_tied other seat ∙ is) ∙ none other)

with_one : (s : Gtids) (g h : Gtid) (b c : Bool) → same_gtid h g ≡ b → set.contains s h ≡ c → set.contains (set.insert s g) h ≡ (b || c)
with_one s g h b c same at = set.contains-insert gtid_total s g h ∙ ap (λ x. x || set.contains s h) (gtid_tied h g ∙ same) ∙ ap (λ x. b || x) at

stays_in : (s : Gtids) (g h : Gtid) → set.contains s h ≡ true → set.contains (set.insert s g) h ≡ true
stays_in s g h at = with_one s g h (same_gtid h g) true refl at ∙ last (same_gtid h g)
  where
    last : (b : Bool) → (b || true) ≡ true
    last true = refl
    last false = refl

-- the GTID that is at a place afterwards is the one that was there
gtid_there : (s : State) (c p : ℕ) (w : IsWaiting p c s) (channels : List ChannelValue) (after : ChannelValue) (e : Received) → SameChannels s.channels channels → slice_get channels c ≡ Some after → slice_get after.received p ≡ Some e → e.gtid ≡ w.entry.gtid
gtid_there s c p w channels after e same at there =
    let b = same c after at in
    let channel : b.0 ≡ w.channel = one_value b.0 w.channel (sym b.1 ∙ w.at) in
    let f = b.3 p e there in
    let entry : f.0 ≡ w.entry = one_value f.0 w.entry (sym f.1 ∙ ap (λ (x : ChannelValue). slice_get x.received p) channel ∙ w.there) in
    f.2 ∙ ap (λ (x : Received). x.gtid) entry

after_ok : (s : State) (c p : ℕ) (w : IsWaiting p c s) (t : Transaction) (rows : Rows) → NothingIsOwned s → Settles s (execute (without_seat (take_seat 1 c p s) 1) w.entry.gtid t rows) c p
after_ok s c p w t rows none = record {
  rests = at_rest s 1 (record { channel = c; place = p }) none;
  follows = record { executed = λ h at. stays_in s.executed w.entry.gtid h at; channels = channels_settled w.entry.gtid s.channels };
  done = λ after at. inr (λ e there.
      ap (set.contains (set.insert s.executed w.entry.gtid)) (gtid_there s c p w (map (settle_channel w.entry.gtid) s.channels) after e (channels_settled w.entry.gtid s.channels) at there) ∙ has_itself s.executed w.entry.gtid);
}

is_stopped : (c : ℕ) (channels : List ChannelValue) (x after : ChannelValue) → slice_get channels c ≡ Some x → slice_get (set_stopped_at true c channels) c ≡ Some after → after.stopped ≡ true
is_stopped c channels x after is at =
    let set_at : slice_get (slice_set channels c (with_stopped true x)) c ≡ Some after = subst (λ (o : Option ChannelValue). slice_get (option_map_or (λ y. slice_set channels c (with_stopped true y)) o channels) c ≡ Some after) is at in
    ap (λ (y : ChannelValue). y.stopped) (set_here channels c (with_stopped true x) after set_at)

after_err : (s : State) (c p : ℕ) (w : IsWaiting p c s) → NothingIsOwned s → Settles s (stopping c (without_seat (take_seat 1 c p s) 1)) c p
after_err s c p w none = record {
  rests = at_rest s 1 (record { channel = c; place = p }) none;
  follows = record { executed = λ h at. at; channels = channels_stopped c s.channels w.channel w.at };
  done = λ after at. inl (is_stopped c s.channels w.channel after w.at at);
}

after_answer : (s : State) (c p : ℕ) (w : IsWaiting p c s) (t : Transaction) → NothingIsOwned s → (r : Result Rows RowFault) → Settles s (commit_answer w.entry.gtid t 1 c (take_seat 1 c p s) r).1 c p
after_answer s c p w t none (Ok rows) = after_ok s c p w t rows none
after_answer s c p w t none (Err fault) = after_err s c p w none

moved : (site : Site) (s t u : State) (r q : Reply) (c p : ℕ) (w : IsWaiting p c s) → NothingIsOwned s → AreKept site.schema s.executed s.channels → IsFront s w.channel p
    → ◌≡◌ {A = Step} (r, t) (take_place site 1 c p s) → ◌≡◌ {A = Step} (q, u) (commit site 1 t) → Settles s u c p
moved site s t u r q c p w none kept front takes commits =
    let took_it : t ≡ take_seat 1 c p s = ap (λ (x : Step). x.1) (takes ∙ took site s 1 c p w refl none front) in
    let a = answered site s c p w kept front in
    let made : u ≡ (commit_answer w.entry.gtid a.txn 1 c (take_seat 1 c p s) (apply site.schema a.txn s.rows)).1 = ap (λ (x : Step). x.1) (commits ∙ ap (commit site 1) took_it ∙ a.is) in
    subst (λ (x : State). Settles s x c p) (sym made) (after_answer s c p w a.txn none (apply site.schema a.txn s.rows))

front_of : (s : State) (n c : ℕ) (w : IsWaiting n c s) → IsDoneBelow n c s → IsFront s w.channel n
front_of s n c w done =
    ⊎_elim
    (λ (stops : w.channel.stopped ≡ true). absurd (true≢false (sym stops ∙ w.runs)))
    (λ (all : IsFront s w.channel n). all)
    (done w.channel w.at)

-- what a Take of a waiting place by seat 1 and its Commit leave
pub settled_by : (site other : Site) (s t u : State) (r q : Reply) (c p : ℕ) → NothingIsOwned s → IsDoneBelow p c s → IsWaiting p c s → AreKept site.schema s.executed s.channels
    → other ≡ site → ◌≡◌ {A = Step} (r, t) (step site s (Take 1 c p)) → ◌≡◌ {A = Step} (q, u) (step other t (Commit 1)) → Settles s u c p
settled_by site other s t u r q c p none done w kept same takes commits =
    moved site s t u r q c p w none kept (front_of s p c w done) takes (commits ∙ ap (λ (x : Site). commit x 1 t) same)
