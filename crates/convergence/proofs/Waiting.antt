-- Transactions that wait in channels.
use Rattle.std.proofs.Common.{◌≡◌, ℕ, Bool, true, false, cond, ◌⊎◌, inl, inr, List, [], ◌∷◌, ◌++◌, map, Some, None, refl, sym, ap, ◌∙◌, subst}
use Rattle.std.specs.Prelude.{slice_get, slice_set}
use Rattle.std.proofs.lemmas.Option.{same_Some}
use Rattle.lemmas.proofs.Lists.{get_map_cases, get_push_cases, get_set_cases}
use Rattle.lemmas.proofs.Options.{none_some}
use Rattle.gtid_text.specs.declared.Gtid.{Gtid}
use Rattle.gtid_text.specs.Gtids.{same_gtid}
use Rattle.rows.specs.declared.change.Transaction.{Transaction}
use Rattle.journal.specs.declared.Entry.{Entry}
use Rattle.apply_channel.specs.Channels.{ChannelValue, Received, settle, settle_channel, received_as}

-- a transaction waits among what was received
abbrev pub WaitsIn : List Received → Entry → Type 0
WaitsIn rs x = (p : ℕ) × (y : Received) × (slice_get rs p ≡ Some y) × (y.gtid ≡ x.gtid) × (y.txn ≡ Some x.txn)

-- it waits in a channel
abbrev pub Waits : List ChannelValue → Entry → Type 0
Waits channels x = (c : ℕ) × (ch : ChannelValue) × (slice_get channels c ≡ Some ch) × WaitsIn ch.received x

pub waits_push : (channels : List ChannelValue) (new : ChannelValue) (x : Entry) → new.received ≡ [] → Waits (channels ++ new ∷ []) x → Waits channels x
waits_push channels new x none w = elim (get_push_cases channels new w.0 w.1 w.2) [
  | inl old ↦ (w.0, w.1, old, w.3)
  | inr last ↦ none_some w.3.1 (ap (λ rs. slice_get rs w.3.0) (sym none ∙ ap (λ (c : ChannelValue). c.received) last.1) ∙ w.3.2)
]

-- one channel changes
pub waits_set : (P : Type 0) (channels : List ChannelValue) (c : ℕ) (old new : ChannelValue) (x : Entry) → slice_get channels c ≡ Some old → (WaitsIn new.received x → WaitsIn old.received x ⊎ P) → Waits (slice_set channels c new) x → Waits channels x ⊎ P
waits_set P channels c old new x here from w = elim (get_set_cases channels c new w.0 w.1 w.2) [
  | inl at ↦ elim (from (subst (λ (y : ChannelValue). WaitsIn y.received x) (sym at.1) w.3)) [ inl was ↦ inl (c, old, here, was) | inr is ↦ inr is ]
  | inr other ↦ inl (w.0, w.1, other.1, w.3)
]

pub waits_set_same : (channels : List ChannelValue) (c : ℕ) (old new : ChannelValue) (x : Entry) → slice_get channels c ≡ Some old → new.received ≡ old.received → Waits (slice_set channels c new) x → Waits channels x
waits_set_same channels c old new x here same w =
    elim (waits_set ⊥ channels c old new x here (λ v. inl (subst (λ rs. WaitsIn rs x) same v)) w) [ inl was ↦ was | inr never ↦ absurd never ]

-- what was received last, where it waits, is not executed
as_received : (b : Bool) (t u : Transaction) → cond b None (Some t) ≡ Some u → (b ≡ false) × (t ≡ u)
as_received true t u e = none_some u e
as_received false t u e = (refl, same_Some t u e)

pub waits_received : (rs : List Received) (executed : Bool) (entry x : Entry) → WaitsIn (rs ++ received_as executed entry ∷ []) x → WaitsIn rs x ⊎ ((executed ≡ false) × (entry ≡ x))
waits_received rs executed entry x w = elim (get_push_cases rs (received_as executed entry) w.0 w.1 w.2) [
  | inl old ↦ inl (w.0, w.1, old, w.3, w.4)
  | inr last ↦
      let t = as_received executed entry.txn x.txn (ap (λ (y : Received). y.txn) last.1 ∙ w.4) in
      let g : entry.gtid ≡ x.gtid = ap (λ (y : Received). y.gtid) last.1 ∙ w.3 in
      inr (t.0, λ i. record { gtid = g i; txn = t.1 i })
]

-- what still waits once a GTID is executed waited before, and has another GTID
settled_by : (b : Bool) (e : Received) (x : Entry) → (cond b (record { gtid = e.gtid; txn = None }) e).gtid ≡ x.gtid → (cond b (record { gtid = e.gtid; txn = None }) e).txn ≡ Some x.txn → (b ≡ false) × (e.gtid ≡ x.gtid) × (e.txn ≡ Some x.txn)
settled_by true e x g t = none_some x.txn t
settled_by false e x g t = (refl, g, t)

pub waits_settled : (channels : List ChannelValue) (h : Gtid) (x : Entry) → Waits (map (settle_channel h) channels) x → Waits channels x × (same_gtid x.gtid h ≡ false)
waits_settled channels h x w =
    let r = get_map_cases (settle_channel h) channels w.0 w.1 w.2 in
    let q = get_map_cases (settle h) r.0.received w.3.0 w.3.1 (ap (λ (c : ChannelValue). slice_get c.received w.3.0) r.2 ∙ w.3.2) in
    let was = settled_by (same_gtid q.0.gtid h) q.0 x (ap (λ (y : Received). y.gtid) q.2 ∙ w.3.3) (ap (λ (y : Received). y.txn) q.2 ∙ w.3.4) in
    ((w.0, r.0, r.1, (w.3.0, q.0, q.1, was.1, was.2)), ap (λ (g : Gtid). same_gtid g h) (sym was.1) ∙ was.0)
