-- What the seats keep, after each change.
use Rattle.std.proofs.Common.{◌≡◌, ◌≢◌, ℕ, ◌<◌, ◌⊎◌, inl, inr, Bool, true, false, cond, List, [], ◌∷◌, ◌++◌, length, map, refl, sym, ap, subst, ◌∙◌, arith, get_or-set_same, get_or-set_other}
use Rattle.std.specs.Prelude.{Option, Some, None, slice_get, slice_set, option_and_then, option_map, is_some, ◌==◌}
use Rattle.std.specs.Option.{option_map_or}
use Rattle.std.specs.Ordering.{nat_cmp}
use Rattle.std.specs.Cmp.{nat_cmp_total, unsigned_tied}
use Rattle.std.specs.FinMap as finmap
use Rattle.std.proofs.lemmas.Bool.Decides.{nat_tests}
use Rattle.std.proofs.lemmas.List.{length-set}
use Rattle.std.proofs.lemmas.Option.{slice_get_within, slice_get-get_or, get_or_from_slice_get, slice_get-map}
use Rattle.lemmas.proofs.Numbers.{equal_numbers}
use Rattle.lemmas.proofs.Lists.{get_append_left}
use Rattle.lemmas.proofs.SameGtid.{same_is_equal}
use Rattle.gtid_text.specs.declared.Gtid.{Gtid}
use Rattle.gtid_text.specs.Gtids.{same_gtid}
use Rattle.apply_channel.specs.Channels.{ChannelValue, Received, settle, settle_channel}
use Rattle.replica_core.specs.declared.event.Spot.{Spot}
use Rattle.replica_core.specs.State.{Seats}
use Rattle.replica_core.specs.Machine.{is_seat, change_at}
use Rattle.replica_core.specs.Seated.{entry_of, txn_of, HasEntry, AreSeated, IsUnowned, freed_of}
use Rattle.replica_core.proofs.LookLemmas.{one_value}
use Rattle.replica_core.proofs.FreeLemmas.{entry_with}

-- ---- other channels, the same seats

-- where the busy seats' places show the same entries
pub seated_alike : (old new : List ChannelValue) (seats : Seats) → ((seat : ℕ) (spot : Spot) → finmap.get seats seat ≡ Some spot → entry_of new spot ≡ entry_of old spot) → AreSeated old seats → AreSeated new seats
seated_alike old new seats same s = record {
  number = s.number;
  busy = λ seat spot at. ap (λ (o : Option Received). is_some (option_and_then (λ (e : Received). e.txn) o)) (same seat spot at) ∙ s.busy seat spot at;
  once = λ a b e f p q is. s.once a b e f (p.0, p.1, sym (same a p.0 p.1) ∙ p.2) (q.0, q.1, sym (same b q.0 q.1) ∙ q.2) is;
}

-- where the entries that were there stay
pub seated_grown : (old new : List ChannelValue) (seats : Seats) → ((spot : Spot) (e : Received) → entry_of old spot ≡ Some e → entry_of new spot ≡ Some e) → AreSeated old seats → AreSeated new seats
seated_grown old new seats grows s =
    seated_alike old new seats (λ seat spot at. let w = entry_with (entry_of old spot) (s.busy seat spot at) in grows spot w.0 w.1 ∙ sym w.1) s

through : {X Y : Type 0} (f : X → Option Y) (o n : Option X) (e : Y) → ((x : X) → o ≡ Some x → n ≡ Some x) → option_and_then f o ≡ Some e → option_and_then f n ≡ Some e
through f None n e keeps h = absurd (cc h)
through f (Some x) n e keeps h = ap (option_and_then f) (keeps x refl) ∙ h

-- one channel more
pub seated_pushed : (channels : List ChannelValue) (one : ChannelValue) (seats : Seats) → AreSeated channels seats → AreSeated (channels ++ one ∷ []) seats
seated_pushed channels one seats s =
    seated_grown channels (channels ++ one ∷ []) seats
    (λ spot e at. through (λ (c : ChannelValue). slice_get c.received spot.place) (slice_get channels spot.channel) (slice_get (channels ++ one ∷ []) spot.channel) e (λ x is. get_append_left channels (one ∷ []) spot.channel x is) at) s

-- a change of a channel in which the entries that were there stay
abbrev pub Keeps : (ChannelValue → ChannelValue) → Type 0
Keeps f = (c : ChannelValue) (i : ℕ) (e : Received) → slice_get c.received i ≡ Some e → slice_get (f c).received i ≡ Some e

other_numbers : (a b : ℕ) → (a == b) ≡ false → a ≢ b
other_numbers a b e = grind (arith, nat_tests)

set_by : {X : Type 0} (xs : List X) (i j : ℕ) (y x : X) (b : Bool) → (j == i) ≡ b → slice_get xs j ≡ Some x → ((i ≡ j) × (slice_get (slice_set xs i y) j ≡ Some y)) ⊎ (slice_get (slice_set xs i y) j ≡ Some x)
set_by xs i j y x true is at =
    let same = equal_numbers j i is in
    let within = slice_get_within xs j x at in
    let longer : i < length (slice_set xs i y) = omega (arith, length-set xs i y, within, same) in
    let below : i < length xs = omega (arith, within, same) in
    inl (sym same, ap (slice_get (slice_set xs i y)) same ∙ slice_get-get_or (slice_set xs i y) i y longer ∙ ap (λ z. Some z) (get_or-set_same xs i y y below))
set_by xs i j y x false is at =
    let apart = other_numbers j i is in
    let within = slice_get_within xs j x at in
    let longer : j < length (slice_set xs i y) = omega (arith, length-set xs i y, within) in
    inr (slice_get-get_or (slice_set xs i y) j x longer ∙ ap (λ z. Some z) (get_or-set_other xs i j y x apart ∙ get_or_from_slice_get xs j x x at))

grown_by : (f : ChannelValue → ChannelValue) → Keeps f → (c : ℕ) (channels : List ChannelValue) (spot : Spot) (e : Received) (o p : Option ChannelValue) → slice_get channels c ≡ o → slice_get channels spot.channel ≡ p → option_and_then (λ (x : ChannelValue). slice_get x.received spot.place) p ≡ Some e → entry_of (option_map_or (λ x. slice_set channels c (f x)) o channels) spot ≡ Some e
grown_by f keeps c channels spot e None p at is h = ap (option_and_then (λ (x : ChannelValue). slice_get x.received spot.place)) is ∙ h
grown_by f keeps c channels spot e (Some x) None at is h = absurd (cc h)
grown_by f keeps c channels spot e (Some x) (Some y) at is h =
    let look = option_and_then (λ (z : ChannelValue). slice_get z.received spot.place) in
    elim (set_by channels c spot.channel (f x) y (spot.channel == c) refl is) [
      | inl w ↦ ap look w.1 ∙ keeps x spot.place e (subst (λ (z : ChannelValue). slice_get z.received spot.place ≡ Some e) (one_value y x (sym is ∙ ap (slice_get channels) (sym w.0) ∙ at)) h)
      | inr w ↦ ap look w ∙ h
    ]

-- one channel changes, and its entries stay
pub seated_changed : (f : ChannelValue → ChannelValue) (c : ℕ) (channels : List ChannelValue) (seats : Seats) → Keeps f → AreSeated channels seats → AreSeated (change_at c f channels) seats
seated_changed f c channels seats keeps s =
    seated_grown channels (change_at c f channels) seats
    (λ spot e at. grown_by f keeps c channels spot e (slice_get channels c) (slice_get channels spot.channel) refl refl at) s

pub keeps_front : (e : Received) (c : ChannelValue) (i : ℕ) (x : Received) → slice_get c.received i ≡ Some x → slice_get (c.received ++ e ∷ []) i ≡ Some x
keeps_front e c i x at = get_append_left c.received (e ∷ []) i x at

-- ---- a GTID is executed that no seat owns any more

settled_by : (g : Gtid) (place : ℕ) (o : Option ChannelValue) → option_and_then (λ (c : ChannelValue). slice_get c.received place) (option_map (settle_channel g) o) ≡ option_map (settle g) (option_and_then (λ (c : ChannelValue). slice_get c.received place) o)
settled_by g place None = refl
settled_by g place (Some c) = slice_get-map (settle g) c.received place

entry_settled : (g : Gtid) (channels : List ChannelValue) (spot : Spot) → entry_of (map (settle_channel g) channels) spot ≡ option_map (settle g) (entry_of channels spot)
entry_settled g channels spot =
    ap (option_and_then (λ (c : ChannelValue). slice_get c.received spot.place)) (slice_get-map (settle_channel g) channels spot.channel)
    ∙ settled_by g spot.place (slice_get channels spot.channel)

unsettled : (g : Gtid) (e : Received) (b : Bool) → same_gtid e.gtid g ≡ b → (e.gtid ≡ g → ⊥) → cond b (record e { txn = None }) e ≡ e
unsettled g e true is other = absurd (other (same_is_equal e.gtid g is))
unsettled g e false is other = refl

pub seated_settled : (g : Gtid) (channels : List ChannelValue) (seats : Seats) → IsUnowned channels seats g → AreSeated channels seats → AreSeated (map (settle_channel g) channels) seats
seated_settled g channels seats free s =
    seated_alike channels (map (settle_channel g) channels) seats
    (λ seat spot at.
    let w = entry_with (entry_of channels spot) (s.busy seat spot at) in
    entry_settled g channels spot ∙ ap (option_map (settle g)) w.1
    ∙ ap (λ (e : Received). Some e) (unsettled g w.0 (same_gtid w.0.gtid g) refl (free seat w.0 (spot, at, w.1))) ∙ sym w.1) s

-- ---- the seats change

taken_by : (b : Bool) (x y : Spot) (o : Option Spot) → cond b (Some x) o ≡ Some y → ((b ≡ true) × (x ≡ y)) ⊎ (o ≡ Some y)
taken_by true x y o e = inl (refl, one_spot x y e)
  where
    one_spot : (x y : Spot) → ◌≡◌ {A = Option Spot} (Some x) (Some y) → x ≡ y
    one_spot x y e = cc
taken_by false x y o e = inr e

pub after_put : (seats : Seats) (seat a : ℕ) (x y : Spot) → finmap.get (finmap.insert seats seat x) a ≡ Some y → ((a ≡ seat) × (x ≡ y)) ⊎ (finmap.get seats a ≡ Some y)
after_put seats seat a x y e =
    elim (taken_by (a == seat) x y (finmap.get seats a) (ap (λ b. cond b (Some x) (finmap.get seats a)) (sym (unsigned_tied a seat)) ∙ sym (finmap.get-insert nat_cmp_total seats seat x a) ∙ e)) [
      | inl p ↦ inl (equal_numbers a seat p.0, p.1)
      | inr p ↦ inr p
    ]

kept_by : (b : Bool) (o : Option Spot) (y : Spot) → cond b None o ≡ Some y → (b ≡ false) × (o ≡ Some y)
kept_by true o y e = absurd (cc e)
kept_by false o y e = (refl, e)

after_clear : (seats : Seats) (seat a : ℕ) (y : Spot) → finmap.get (finmap.remove seats seat) a ≡ Some y → (a ≢ seat) × (finmap.get seats a ≡ Some y)
after_clear seats seat a y e =
    let w = kept_by (a == seat) (finmap.get seats a) y (ap (λ b. cond b None (finmap.get seats a)) (sym (unsigned_tied a seat)) ∙ sym (finmap.get-remove nat_cmp_total seats seat a) ∙ e) in
    (other_numbers a seat w.0, w.1)

-- what a seat has after it took a place
entry_after : (channels : List ChannelValue) (seats : Seats) (seat : ℕ) (x : Spot) (t a : ℕ) (e f : Received) → entry_of channels x ≡ Some e → HasEntry channels (finmap.insert seats seat x) a f → ((a ≡ seat) × (e ≡ f)) ⊎ HasEntry channels seats a f
entry_after channels seats seat x t a e f at p =
    elim (after_put seats seat a x p.0 p.1) [
      | inl w ↦ inl (w.0, one_entry e f (sym at ∙ ap (entry_of channels) w.1 ∙ p.2))
      | inr w ↦ inr (p.0, w, p.2)
    ]
  where
    one_entry : (e f : Received) → ◌≡◌ {A = Option Received} (Some e) (Some f) → e ≡ f
    one_entry e f is = cc

-- a seat takes a place whose GTID no seat owns
pub seated_put : (channels : List ChannelValue) (seats : Seats) (seat : ℕ) (x : Spot) (e : Received) → is_seat seat ≡ true → entry_of channels x ≡ Some e → is_some e.txn ≡ true → IsUnowned channels seats e.gtid → AreSeated channels seats → AreSeated channels (finmap.insert seats seat x)
seated_put channels seats seat x e one at txn free s = record {
  number = λ a y got. elim (after_put seats seat a x y got) [
    | inl w ↦ ap is_seat w.0 ∙ one
    | inr w ↦ s.number a y w
  ];
  busy = λ a y got. elim (after_put seats seat a x y got) [
    | inl w ↦ ap (λ (z : Spot). is_some (txn_of channels z)) (sym w.1) ∙ ap (λ (o : Option Received). is_some (option_and_then (λ (r : Received). r.txn) o)) at ∙ txn
    | inr w ↦ s.busy a y w
  ];
  once = λ a b f g p q is. elim (entry_after channels seats seat x 0 a e f at p) [
    | inl v ↦ elim (entry_after channels seats seat x 0 b e g at q) [
      | inl w ↦ v.0 ∙ sym w.0
      | inr w ↦ absurd (free b g w (sym is ∙ ap (λ (r : Received). r.gtid) (sym v.1)))
    ]
    | inr v ↦ elim (entry_after channels seats seat x 0 b e g at q) [
      | inl w ↦ absurd (free a f v (is ∙ ap (λ (r : Received). r.gtid) (sym w.1)))
      | inr w ↦ s.once a b f g v w is
    ]
  ];
}

-- a seat gives up its place
pub seated_cleared : (channels : List ChannelValue) (seats : Seats) (seat : ℕ) → AreSeated channels seats → AreSeated channels (finmap.remove seats seat)
seated_cleared channels seats seat s = record {
  number = λ a y got. s.number a y (after_clear seats seat a y got).1;
  busy = λ a y got. s.busy a y (after_clear seats seat a y got).1;
  once = λ a b e f p q is. s.once a b e f (p.0, (after_clear seats seat a p.0 p.1).1, p.2) (q.0, (after_clear seats seat b q.0 q.1).1, q.2) is;
}

-- then no seat owns that place's GTID
pub free_after : (channels : List ChannelValue) (seats : Seats) (seat : ℕ) (e : Received) → HasEntry channels seats seat e → AreSeated channels seats → IsUnowned channels (finmap.remove seats seat) e.gtid
free_after channels seats seat e has s a f p is =
    let w = after_clear seats seat a p.0 p.1 in
    w.0 (s.once a seat f e (p.0, w.1, p.2) has is)

-- no seat has anything
pub seated_empty : (channels : List ChannelValue) (seats : Seats) → seats ≡ finmap.empty → AreSeated channels seats
seated_empty channels seats none = record {
  number = λ a y got. absurd (nothing a y got);
  busy = λ a y got. absurd (nothing a y got);
  once = λ a b e f p q is. absurd (nothing a p.0 p.1);
}
  where
    nothing : (a : ℕ) (y : Spot) → finmap.get seats a ≡ Some y → ⊥
    nothing a y got = let no : ◌≡◌ {A = Option Spot} None (Some y) = sym (ap (λ (m : Seats). finmap.get m a) none ∙ finmap.get-empty nat_cmp a) ∙ got in cc no

-- a seat is let go, where one is named
pub seated_freed : (channels : List ChannelValue) (seats : Seats) (freed : Option ℕ) → AreSeated channels seats → AreSeated channels (freed_of freed seats)
seated_freed channels seats None s = s
seated_freed channels seats (Some seat) s = seated_cleared channels seats seat s
