-- The channels, and what they received.
use Rattle.std.proofs.Common.{◌≡◌, ℕ, zero, suc, ◌<◌, Bool, true, false, cond, ◌⊎◌, inl, inr, List, [], ◌∷◌, ◌++◌, map, length, Some, None, refl, sym, ap, ◌∙◌, subst, arith, eqb}
use Rattle.std.specs.Prelude.{slice_get, slice_set, if◌then◌else◌}
use Rattle.std.specs.Option.{option_map, option_and_then}
use Rattle.std.specs.List.{list_any}
use Rattle.std.specs.FinSet as set
use Rattle.std.specs.FinSet.{contains-union}
use Rattle.std.proofs.lemmas.Bool.{eq-eqb, cases_Bool, or_cases}
use Rattle.history.proofs.Covering.{in_gtids}
use Rattle.rows.specs.declared.change.Transaction.{Transaction}
use Rattle.gtid_text.specs.declared.Gtid.{Gtid}
use Rattle.gtid_text.specs.Gtids.{gtid_cmp, same_gtid}
use Rattle.gtid_set.specs.Sets.{Gtids}
use Rattle.journal.specs.declared.Entry.{Entry}
use Rattle.apply_channel.specs.Channels.{ChannelValue, Received, settle, settle_channel}
use Rattle.replica_core.specs.declared.event.Spot.{Spot}
use Rattle.replica_core.specs.State.{State}
use Rattle.replica_core.specs.Machine.{ask}
use Rattle.history.specs.World.{OrderedWorld, content, is_opened}
use Rattle.auto_position.specs.Sending.{sent}
use Rattle.convergence.specs.Faithful.{Since}
use Rattle.convergence.proofs.Sending.{Served}
use Rattle.convergence.proofs.Invariant.{gtid_at, IsIn, AllApply, Needs, Stands, StandsBefore, IsGood, AreGood}
use Rattle.convergence.proofs.Seats.{StaysPut}
use Rattle.std.proofs.lemmas.Option.{same_Some, slice_get_within}
use Rattle.lemmas.proofs.Options.{none_some, map_some, and_then_some}
use Rattle.lemmas.proofs.Tests.{not_both}
use Rattle.lemmas.proofs.SameGtid.{same_is_equal, gtid_total}
use Rattle.lemmas.proofs.Lists.{get_push_cases, get_set_cases, get_set_from, get_map, get_append_left, get_push, get_map_cases}
use Rattle.lemmas.proofs.Numbers.{eqb_other}

-- how an entry is kept that is received
abbrev pub received_entry : State → Entry → Received
received_entry s entry = record { gtid = entry.gtid; txn = (if set.contains s.executed entry.gtid then None else Some entry.txn) }

-- what is stored under a place of a channel stays under it
abbrev pub Extends : ChannelValue → ChannelValue → Type 0
Extends old new = (p : ℕ) (e : Received) → slice_get old.received p ≡ Some e → (f : Received) × (slice_get new.received p ≡ Some f) × (f.gtid ≡ e.gtid)

pub parts : (channels : List ChannelValue) (spot : Spot) (g : Gtid) → gtid_at channels spot ≡ Some g → (ch : ChannelValue) × (e : Received) × (slice_get channels spot.channel ≡ Some ch) × (slice_get ch.received spot.place ≡ Some e) × (e.gtid ≡ g)
parts channels spot g h =
    let e = map_some (λ (x : Received). x.gtid) (option_and_then (λ (ch : ChannelValue). slice_get ch.received spot.place) (slice_get channels spot.channel)) g h in
    let c = and_then_some (λ (ch : ChannelValue). slice_get ch.received spot.place) (slice_get channels spot.channel) e.0 e.1 in
    (c.0, e.0, c.1, c.2, e.2)

pub from_parts : (channels : List ChannelValue) (spot : Spot) (ch : ChannelValue) (e : Received) → slice_get channels spot.channel ≡ Some ch → slice_get ch.received spot.place ≡ Some e → gtid_at channels spot ≡ Some e.gtid
from_parts channels spot ch e c p =
    ap (λ o. option_map (λ (x : Received). x.gtid) (option_and_then (λ (y : ChannelValue). slice_get y.received spot.place) o)) c ∙ ap (option_map (λ (x : Received). x.gtid)) p

pub put_set : (channels : List ChannelValue) (c : ℕ) (old new : ChannelValue) → slice_get channels c ≡ Some old → Extends old new → StaysPut channels (slice_set channels c new)
put_set channels c old new here extends spot g h =
    let p = parts channels spot g h in
    elim (get_set_from channels c new spot.channel p.0 p.2) [
      | inl same ↦ from_parts (slice_set channels c new) spot p.0 p.1 same p.3 ∙ ap Some p.4
      | inr changed ↦
          let is_old : p.0 ≡ old = same_Some p.0 old (sym p.2 ∙ (ap (slice_get channels) changed.0 ∙ here)) in
          let f = extends spot.place p.1 (ap (λ (x : ChannelValue). slice_get x.received spot.place) (sym is_old) ∙ p.3) in
          from_parts (slice_set channels c new) spot new f.0 changed.1 f.1 ∙ ap Some (f.2 ∙ p.4)
    ]

pub put_push : (channels more : List ChannelValue) → StaysPut channels (channels ++ more)
put_push channels more spot g h =
    let p = parts channels spot g h in
    from_parts (channels ++ more) spot p.0 p.1 (get_append_left channels more spot.channel p.0 p.2) p.3 ∙ ap Some p.4

settle_by : (b : Bool) (e : Received) → (cond b (record { gtid = e.gtid; txn = None }) e).gtid ≡ e.gtid
settle_by true e = refl
settle_by false e = refl

pub settle_gtid : (g : Gtid) (e : Received) → (settle g e).gtid ≡ e.gtid
settle_gtid g e = settle_by (same_gtid e.gtid g) e

pub put_settled : (channels : List ChannelValue) (g : Gtid) → StaysPut channels (map (settle_channel g) channels)
put_settled channels g spot h there =
    let p = parts channels spot h there in
    from_parts (map (settle_channel g) channels) spot (settle_channel g p.0) (settle g p.1) (get_map (settle_channel g) channels spot.channel p.0 p.2) (get_map (settle g) p.0.received spot.place p.1 p.3)
    ∙ ap Some (settle_gtid g p.1 ∙ p.4)

pub extends_push : (ch : ChannelValue) (e : Received) (new : ChannelValue) → new.received ≡ ch.received ++ e ∷ [] → Extends ch new
extends_push ch e new same p f h = (f, ap (λ rs. slice_get rs p) same ∙ get_append_left ch.received (e ∷ []) p f h, refl)

-- ---- one channel

stands_over : (h : Gtid) (rs more : List Received) → Stands h rs → Stands h (rs ++ more)
stands_over h rs more s = (s.0, s.1, get_append_left rs more s.0 s.1 s.2, s.3)

before_over : (p : ℕ) (h : Gtid) (rs more : List Received) → StandsBefore p h rs → StandsBefore p h (rs ++ more)
before_over p h rs more s = (s.0, s.1, get_append_left rs more s.0 s.1 s.2, s.3, s.4)

stands_settled : (g h : Gtid) (rs : List Received) → Stands h rs → Stands h (map (settle g) rs)
stands_settled g h rs s = (s.0, settle g s.1, get_map (settle g) rs s.0 s.1 s.2, settle_gtid g s.1 ∙ s.3)

before_settled : (p : ℕ) (g h : Gtid) (rs : List Received) → StandsBefore p h rs → StandsBefore p h (map (settle g) rs)
before_settled p g h rs s = (s.0, settle g s.1, get_map (settle g) rs s.0 s.1 s.2, settle_gtid g s.1 ∙ s.3, s.4)

settle_other : (b : Bool) (e : Received) → b ≡ false → cond b (record { gtid = e.gtid; txn = None }) e ≡ e
settle_other true e n = cc
settle_other false e n = refl

-- after g is executed
pub good_settled : (world : OrderedWorld) (ex ex' : Gtid → Bool) (since : List Entry) (ch : ChannelValue) (g : Gtid) → ((h : Gtid) → ex h ≡ true → ex' h ≡ true) → ex' g ≡ true → IsGood world ex since ch → IsGood world ex' since (settle_channel g ch)
good_settled world ex ex' since ch g more now_in good = record {
  running = good.running;
  known = λ p e i new.
      let r = get_map_cases (settle g) ch.received p e i in
      let id : e.gtid ≡ r.0.gtid = ap (λ (x : Received). x.gtid) (sym r.2) ∙ settle_gtid g r.0 in
      let not_g : same_gtid r.0.gtid g ≡ false = elim (cases_Bool (same_gtid r.0.gtid g)) [
        | inl same ↦ not_both (ex' e.gtid) (ap ex' (id ∙ same_is_equal r.0.gtid g same) ∙ now_in) new
        | inr other ↦ other
      ] in
      let same : r.0 ≡ e = sym (settle_other (same_gtid r.0.gtid g) r.0 not_g) ∙ r.2 in
      let was_new : ex e.gtid ≡ false = elim (cases_Bool (ex e.gtid)) [ inl done ↦ not_both (ex' e.gtid) (more e.gtid done) new | inr n ↦ n ] in
      good.known p e (r.1 ∙ ap Some same) was_new;
  needed = λ p e h i n.
      let r = get_map_cases (settle g) ch.received p e i in
      let id : e.gtid ≡ r.0.gtid = ap (λ (x : Received). x.gtid) (sym r.2) ∙ settle_gtid g r.0 in
      elim (good.needed p r.0 h r.1 (subst (Needs world h) id n)) [ inl done ↦ inl (more h done) | inr before ↦ inr (before_settled p g h ch.received before) ];
  asked = λ A a h i. elim (good.asked A a h i) [ inl done ↦ inl (more h done) | inr there ↦ inr (stands_settled g h ch.received there) ];
  recent = λ x i. stands_settled g x.gtid ch.received (good.recent x i);
}

in_push : (x y : Entry) (xs : List Entry) → IsIn x (xs ++ y ∷ []) → IsIn x xs ⊎ (y ≡ x)
in_push x y [] (inl same) = inr same
in_push x y [] (inr none) = absurd none
in_push x y (z ∷ xs) (inl same) = inl (inl same)
in_push x y (z ∷ xs) (inr later) = elim (in_push x y xs later) [ inl i ↦ inl (inr i) | inr same ↦ inr same ]

no_txn : (b : Bool) (t : Transaction) → b ≡ false → cond b None (Some t) ≡ Some t
no_txn true t n = cc
no_txn false t n = refl

-- after an entry was received that was sent
pub good_received : (world : OrderedWorld) (s : State) (since : List Entry) (ch : ChannelValue) (A : Gtids) (entry : Entry) → ((g : Gtid) → is_opened world g ≡ true → set.contains s.executed g ≡ true) → ch.asked ≡ Some A → Served world A since entry → IsGood world (set.contains s.executed) since ch
    → IsGood world (set.contains s.executed) (since ++ entry ∷ []) (record { name = ch.name; preserve = ch.preserve; stopped = ch.stopped; asked = ch.asked; received = ch.received ++ received_entry s entry ∷ [] })
good_received world s since ch A entry opened a served good = record {
  running = good.running;
  known = λ p e i new. elim (get_push_cases ch.received (received_entry s entry) p e i) [
    | inl old ↦ good.known p e old new
    | inr last ↦
        let id : e.gtid ≡ entry.gtid = ap (λ (x : Received). x.gtid) (sym last.1) in (
          entry.txn,
          ap (λ (x : Received). x.txn) (sym last.1) ∙ no_txn (set.contains s.executed entry.gtid) entry.txn (ap (set.contains s.executed) (sym id) ∙ new),
          ap (content world) id ∙ served.content_is (elim (cases_Bool (is_opened world entry.gtid)) [ inl e ↦ not_both (set.contains s.executed entry.gtid) (opened entry.gtid e) (ap (set.contains s.executed) (sym id) ∙ new) | inr n ↦ n ]),
        )
  ];
  needed = λ p e h i n. elim (get_push_cases ch.received (received_entry s entry) p e i) [
    | inl old ↦ elim (good.needed p e h old n) [ inl done ↦ inl done | inr before ↦ inr (before_over p h ch.received (received_entry s entry ∷ []) before) ]
    | inr last ↦
        let id : e.gtid ≡ entry.gtid = ap (λ (x : Received). x.gtid) (sym last.1) in
        elim (served.needed h (subst (Needs world h) id n)) [
          | inl asked ↦ elim (good.asked A a h asked) [
            | inl done ↦ inl done
            | inr there ↦ inr (there.0, there.1, get_append_left ch.received (received_entry s entry ∷ []) there.0 there.1 there.2, there.3, subst (λ m. there.0 < m) (sym last.0) (slice_get_within ch.received there.0 there.1 there.2))
          ]
          | inr sent ↦
              let there = good.recent sent.0 sent.2 in
              inr (there.0, there.1, get_append_left ch.received (received_entry s entry ∷ []) there.0 there.1 there.2, there.3 ∙ sym (same_is_equal h sent.0.gtid sent.1), subst (λ m. there.0 < m) (sym last.0) (slice_get_within ch.received there.0 there.1 there.2))
        ]
  ];
  asked = λ B b h i. elim (good.asked B b h i) [ inl done ↦ inl done | inr there ↦ inr (stands_over h ch.received (received_entry s entry ∷ []) there) ];
  recent = λ x i. elim (in_push x entry since i) [
    | inl old ↦ stands_over x.gtid ch.received (received_entry s entry ∷ []) (good.recent x old)
    | inr same ↦ (length ch.received, received_entry s entry, get_push ch.received (received_entry s entry), ap (λ (y : Entry). y.gtid) same)
  ];
}

pub among_received : (rs : List Received) (g : Gtid) → list_any (λ x. same_gtid g x) (map (λ (e : Received). e.gtid) rs) ≡ true → Stands g rs
among_received [] g h = cc
among_received (r ∷ rs) g h =
    elim (or_cases (same_gtid g r.gtid) (list_any (λ x. same_gtid g x) (map (λ (e : Received). e.gtid) rs)) h) [
      | inl here ↦ (zero, r, refl, sym (same_is_equal g r.gtid here))
      | inr later ↦ let s = among_received rs g later in (suc s.0, s.1, s.2, s.3)
    ]

-- after a Position
pub good_asked : (world : OrderedWorld) (s : State) (since : List Entry) (ch : ChannelValue) → IsGood world (set.contains s.executed) since ch
    → IsGood world (set.contains s.executed) [] (record { name = ch.name; preserve = ch.preserve; stopped = ch.stopped; asked = Some (ask s ch); received = ch.received })
good_asked world s since ch good = record {
  running = good.running;
  known = good.known;
  needed = good.needed;
  asked = λ A a g i.
      let same : ask s ch ≡ A = same_Some (ask s ch) A a in
      let both = sym (contains-union gtid_total s.executed (set.from_list (map (λ (e : Received). e.gtid) ch.received)) g) ∙ (ap (λ (X : Gtids). set.contains X g) same ∙ i) in
      elim (or_cases (set.contains s.executed g) (set.contains (set.from_list {R = gtid_cmp} (map (λ (e : Received). e.gtid) ch.received)) g) both) [
        | inl done ↦ inl done
        | inr there ↦ inr (among_received ch.received g (sym (in_gtids (map (λ (e : Received). e.gtid) ch.received) g) ∙ there))
      ];
  recent = λ x i. absurd i;
}

pub good_restarted : (world : OrderedWorld) (ex : Gtid → Bool) (since : List Entry) (ch : ChannelValue) → IsGood world ex since ch
    → IsGood world ex since (record { name = ch.name; preserve = ch.preserve; stopped = false; asked = ch.asked; received = ch.received })
good_restarted world ex since ch good = record { running = λ a. refl; known = good.known; needed = good.needed; asked = good.asked; recent = good.recent }

pub good_stopped : (world : OrderedWorld) (ex : Gtid → Bool) (since : List Entry) (ch : ChannelValue) → (AllApply world → ⊥) → IsGood world ex since ch
    → IsGood world ex since (record { name = ch.name; preserve = ch.preserve; stopped = true; asked = ch.asked; received = ch.received })
good_stopped world ex since ch not_all good = record { running = λ a. absurd (not_all a); known = good.known; needed = good.needed; asked = good.asked; recent = good.recent }

pub good_new : (world : OrderedWorld) (ex : Gtid → Bool) (name : List ℕ) (preserve : Bool) → IsGood world ex [] (record { name = name; preserve = preserve; stopped = false; asked = None; received = [] })
good_new world ex name preserve = record {
  running = λ a. refl;
  known = λ p e i n. none_some e i;
  needed = λ p e h i n. none_some e i;
  asked = λ A a g i. none_some A a;
  recent = λ x i. absurd i;
}

-- ---- all channels

-- one channel changes, and what it has received lately
pub all_set : (world : OrderedWorld) (ex : Gtid → Bool) (since : Since) (channels : List ChannelValue) (c : ℕ) (new : ChannelValue) (recent : List Entry) → AreGood world ex since channels → IsGood world ex recent new → AreGood world ex (λ d. cond (eqb d c) recent (since d)) (slice_set channels c new)
all_set world ex since channels c new recent good one d ch i =
    elim (get_set_cases channels c new d ch i) [
      | inl here ↦ subst (λ xs. IsGood world ex xs ch) (sym (ap (λ b. cond b recent (since d)) (eq-eqb d c here.0))) (subst (IsGood world ex recent) here.1 one)
      | inr there ↦ subst (λ xs. IsGood world ex xs ch) (sym (ap (λ b. cond b recent (since d)) (eqb_other d c there.0))) (good d ch there.1)
    ]

pub all_set_same : (world : OrderedWorld) (ex : Gtid → Bool) (since : Since) (channels : List ChannelValue) (c : ℕ) (new : ChannelValue) → AreGood world ex since channels → IsGood world ex (since c) new → AreGood world ex since (slice_set channels c new)
all_set_same world ex since channels c new good one d ch i =
    elim (get_set_cases channels c new d ch i) [
      | inl here ↦ subst (λ n. IsGood world ex (since n) ch) (sym here.0) (subst (IsGood world ex (since c)) here.1 one)
      | inr there ↦ good d ch there.1
    ]

pub all_push : (world : OrderedWorld) (ex : Gtid → Bool) (since : Since) (channels : List ChannelValue) (new : ChannelValue) → AreGood world ex since channels → IsGood world ex [] new → AreGood world ex (λ d. cond (eqb d (length channels)) [] (since d)) (channels ++ new ∷ [])
all_push world ex since channels new good one d ch i =
    elim (get_push_cases channels new d ch i) [
      | inl old ↦
          let below : d < length channels = slice_get_within channels d ch old in
          subst (λ xs. IsGood world ex xs ch) (sym (ap (λ b. cond b [] (since d)) (eqb_other d (length channels) (λ e. omega arith)))) (good d ch old)
      | inr last ↦ subst (λ xs. IsGood world ex xs ch) (sym (ap (λ b. cond b [] (since d)) (eq-eqb d (length channels) last.0))) (subst (IsGood world ex []) last.1 one)
    ]

pub all_settled : (world : OrderedWorld) (ex ex' : Gtid → Bool) (since : Since) (channels : List ChannelValue) (g : Gtid) → ((h : Gtid) → ex h ≡ true → ex' h ≡ true) → ex' g ≡ true → AreGood world ex since channels → AreGood world ex' since (map (settle_channel g) channels)
all_settled world ex ex' since channels g more now_in good c ch i =
    let r = get_map_cases (settle_channel g) channels c ch i in
    subst (IsGood world ex' (since c)) r.2 (good_settled world ex ex' (since c) r.0 g more now_in (good c r.0 r.1))
