-- The seats, and what they own.
use Rattle.std.proofs.Common.{◌≡◌, ◌≢◌, ℕ, zero, suc, ◌+◌, ◌<◌, ◌≤◌, arith, Bool, true, false, cond, ◌⊎◌, inl, inr, List, Option, Some, None, refl, sym, ap, ◌∙◌, subst}
use Rattle.std.specs.Prelude.{nat_le}
use Rattle.std.specs.Option.{option_map, option_map_or, option_and_then}
use Rattle.std.specs.List.{AllByRecursion, range_with_len}
use Rattle.std.specs.Ordering.{nat_cmp, eq_by_cmp, is_eq}
use Rattle.std.specs.FinMap as finmap
use Rattle.std.specs.FinMap.{get-remove}
use Rattle.std.proofs.lemmas.Cmp.{nat_cmp_total, tied_itself}
use Rattle.gtid_text.specs.declared.Gtid.{Gtid}
use Rattle.gtid_text.specs.Gtids.{same_gtid}
use Rattle.apply_channel.specs.Channels.{ChannelValue, Received}
use Rattle.replica_core.specs.declared.event.Spot.{Spot}
use Rattle.replica_core.specs.State.{State, Seats, owned_by, owner, seat_numbers, entry_at}
use Rattle.replica_core.specs.Machine.{is_seat}
use Rattle.history.specs.World.{OrderedWorld}
use Rattle.convergence.proofs.Invariant.{IsReady, AreSeated, gtid_at}
use Rattle.std.proofs.lemmas.Bool.{and_parts}
use Rattle.std.proofs.lemmas.Option.{same_Some}
use Rattle.lemmas.proofs.Options.{none_some}
use Rattle.lemmas.proofs.Tests.{not_both}
use Rattle.lemmas.proofs.SameGtid.{same_itself}
use Rattle.lemmas.proofs.Lists.{none_passes}
use Rattle.lemmas.proofs.Numbers.{le_of_test}
use Rattle.replica_core.proofs.SeatLemmas.{after_put}

-- GTIDs stay at their places
abbrev pub StaysPut : List ChannelValue → List ChannelValue → Type 0
StaysPut old new = (spot : Spot) (g : Gtid) → gtid_at old spot ≡ Some g → gtid_at new spot ≡ Some g

pub seats_over : (world : OrderedWorld) (ex : Gtid → Bool) (old new : List ChannelValue) (seats : Seats) → StaysPut old new → AreSeated world ex old seats → AreSeated world ex new seats
seats_over world ex old new seats stays h = record {
  ready = λ a spot e. let r = h.ready a spot e in record { gtid = r.gtid; there = stays spot r.gtid r.there; new = r.new; needs = r.needs };
  in_range = h.in_range;
  distinct = λ a b x y g p q u v.
      let r = h.ready a x p in
      let t = h.ready b y q in
      h.distinct a b x y g p q
      (r.there ∙ (sym (stays x r.gtid r.there) ∙ u))
      (t.there ∙ (sym (stays y t.gtid t.there) ∙ v));
}

none_or : {A : Type 0} (b : Bool) (o : Option A) (x : A) → cond b None o ≡ Some x → o ≡ Some x
none_or true o x e = none_some x e
none_or false o x e = e

pub still_there : (seats : Seats) (k a : ℕ) (spot : Spot) → finmap.get (finmap.remove seats k) a ≡ Some spot → finmap.get seats a ≡ Some spot
still_there seats k a spot e = none_or (eq_by_cmp nat_cmp a k) (finmap.get seats a) spot (sym (get-remove nat_cmp_total seats k a) ∙ e)

pub seats_without : (world : OrderedWorld) (ex : Gtid → Bool) (channels : List ChannelValue) (seats : Seats) (k : ℕ) → AreSeated world ex channels seats → AreSeated world ex channels (finmap.remove seats k)
seats_without world ex channels seats k h = record {
  ready = λ a spot e. h.ready a spot (still_there seats k a spot e);
  in_range = λ a spot e. h.in_range a spot (still_there seats k a spot e);
  distinct = λ a b x y g p q u v. h.distinct a b x y g (still_there seats k a x p) (still_there seats k b y q) u v;
}

-- no seat has this GTID
abbrev pub IsFree : List ChannelValue → Seats → Gtid → Type 0
IsFree channels seats g = (a : ℕ) (spot : Spot) → finmap.get seats a ≡ Some spot → gtid_at channels spot ≡ Some g → ⊥

one_or : {A : Type 0} (b : Bool) (o : Option A) (y x : A) → cond b (Some y) o ≡ Some x → ((b ≡ true) × (y ≡ x)) ⊎ (o ≡ Some x)
one_or true o y x e = inl (refl, same_Some y x e)
one_or false o y x e = inr e

pub seats_with : (world : OrderedWorld) (ex : Gtid → Bool) (channels : List ChannelValue) (seats : Seats) (k : ℕ) (new : Spot) (r : IsReady world ex channels new) → is_seat k ≡ true → IsFree channels seats r.gtid → AreSeated world ex channels seats → AreSeated world ex channels (finmap.insert seats k new)
seats_with world ex channels seats k new r seat free h = record {
  ready = λ a spot e. elim (after_put seats k a new spot e) [ inl p ↦ subst (IsReady world ex channels) p.1 r | inr q ↦ h.ready a spot q ];
  in_range = λ a spot e. elim (after_put seats k a new spot e) [ inl p ↦ ap is_seat p.0 ∙ seat | inr q ↦ h.in_range a spot q ];
  distinct = λ a b x y g p q u v.
      elim (after_put seats k a new x p) [
        | inl i ↦ elim (after_put seats k b new y q) [
          | inl j ↦ i.0 ∙ sym j.0
          | inr j ↦ absurd (free b y j (v ∙ (sym u ∙ (ap (gtid_at channels) (sym i.1) ∙ r.there))))
        ]
        | inr i ↦ elim (after_put seats k b new y q) [
          | inl j ↦ absurd (free a x i (u ∙ (sym v ∙ (ap (gtid_at channels) (sym j.1) ∙ r.there))))
          | inr j ↦ h.distinct a b x y g i j u v
        ]
      ];
}

-- Where no seat owns g, executing g leaves each seat's GTID to be committed.
pub seats_after : (world : OrderedWorld) (ex ex' : Gtid → Bool) (channels : List ChannelValue) (seats : Seats) (g : Gtid) → ((h : Gtid) → ex h ≡ true → ex' h ≡ true) → ((h : Gtid) → h ≢ g → ex' h ≡ ex h) → IsFree channels seats g → AreSeated world ex channels seats → AreSeated world ex' channels seats
seats_after world ex ex' channels seats g more others free h = record {
  ready = λ a spot e.
      let r = h.ready a spot e in
      record {
        gtid = r.gtid;
        there = r.there;
        new = others r.gtid (λ same. free a spot e (r.there ∙ ap Some same)) ∙ r.new;
        needs = λ x n. more x (r.needs x n);
      };
  in_range = h.in_range;
  distinct = h.distinct;
}

-- without the seat that owns g, no seat owns g
pub free_without : (world : OrderedWorld) (ex : Gtid → Bool) (channels : List ChannelValue) (seats : Seats) (k : ℕ) (spot : Spot) (g : Gtid) → AreSeated world ex channels seats → finmap.get seats k ≡ Some spot → gtid_at channels spot ≡ Some g → IsFree channels (finmap.remove seats k) g
free_without world ex channels seats k spot g h e there a other f u =
    let old = still_there seats k a other f in
    let same : a ≡ k = h.distinct a k other spot g old e u there in
    gone (finmap.get seats a) (sym (ap (λ b. cond b None (finmap.get seats a)) (itself a k same)) ∙ (sym (get-remove nat_cmp_total seats k a) ∙ f))
  where
    itself : (x y : ℕ) → x ≡ y → eq_by_cmp nat_cmp x y ≡ true
    itself x y p = ap is_eq (ap (nat_cmp x) (sym p) ∙ tied_itself nat_cmp_total x)

    gone : (o : Option Spot) → None ≡ Some other → ⊥
    gone o p = cc

-- what holds of each number of a range holds of one in it
in_range_all : (P : ℕ → Type 0) (n lo a : ℕ) → AllByRecursion P (range_with_len lo n) → lo ≤ a → a < lo + n → P a
in_range_all P zero lo a h low high = absurd (omega arith)
in_range_all P (suc n) lo a h low high = elim (first_or_later lo a low) [
  | inl here ↦ subst P here h.0
  | inr later ↦ in_range_all P n (lo + 1) a h.1 later (omega arith)
]
  where
    first_or_later : (lo a : ℕ) → lo ≤ a → (lo ≡ a) ⊎ (lo + 1 ≤ a)
    first_or_later lo a l = grind arith

among_seats : (P : ℕ → Type 0) (a : ℕ) → AllByRecursion P seat_numbers → is_seat a ≡ true → P a
unfolding seat_numbers
among_seats P a h s =
    let both = and_parts (nat_le 1 a) (nat_le a 64) s in
    let low : 1 ≤ a = le_of_test 1 a both.0 in
    let high : a ≤ 64 = le_of_test a 64 both.1 in
    in_range_all P 64 1 a h low (omega arith)

-- where nobody is named as the owner, no seat owns it
pub free_from : (world : OrderedWorld) (ex : Gtid → Bool) (s : State) (g : Gtid) → AreSeated world ex s.channels s.seats → owner s g ≡ None → IsFree s.channels s.seats g
free_from world ex s g seated e a spot f u =
    let none = none_passes (λ seat. option_map_or (λ h. same_gtid h g) (owned_by s seat) false) seat_numbers e in
    let no : option_map_or (λ h. same_gtid h g) (owned_by s a) false ≡ false = among_seats (λ seat. option_map_or (λ h. same_gtid h g) (owned_by s seat) false ≡ false) a none (seated.in_range a spot f) in
    let owned : owned_by s a ≡ Some g = ap (λ o. option_map (λ (x : Received). x.gtid) (option_and_then (entry_at s) o)) f ∙ u in
    let yes : option_map_or (λ h. same_gtid h g) (owned_by s a) false ≡ true = ap (λ o. option_map_or (λ h. same_gtid h g) o false) owned ∙ same_itself g in
    not_both (option_map_or (λ h. same_gtid h g) (owned_by s a) false) yes no
