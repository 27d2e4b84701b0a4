-- A received entry has its transaction exactly where its GTID is not executed: so a channel knows by itself what is in the way.
use Rattle.std.proofs.Common.{◌≡◌, ℕ, ◌+◌, suc, Bool, true, false, cond, not, ◌&&◌, List, [], ◌∷◌, refl, sym, ap, subst, ◌∙◌, arith, length, take, inl, inr, map, ◌||◌}
use Rattle.std.specs.Prelude.{Option, Some, None, All, position, slice_get, option_and_then, is_some, is_none, nat_lt, slice_set}
use Rattle.std.specs.List.{prefix_len, list_all}
use Rattle.std.specs.Option.{option_map_or}
use Rattle.std.specs.FinSet as set
use Rattle.std.proofs.lemmas.Option.{get_or_from_slice_get, slice_get_cases}
use Rattle.std.proofs.lemmas.List.Elements.{All-take, All-map, All-set, All-append, All-cons, All-nil}
use Rattle.lemmas.proofs.SameGtid.{gtid_total}
use Rattle.rows.specs.declared.schema.Table.{Table}
use Rattle.rows.specs.declared.change.Transaction.{Transaction}
use Rattle.rows.specs.Conflicts.{conflicts}
use Rattle.journal.specs.declared.Entry.{Entry}
use Rattle.journal.specs.Writing.{is_number}
use Rattle.gtid_text.specs.declared.Gtid.{Gtid}
use Rattle.gtid_text.specs.Gtids.{same_gtid}
use Rattle.gtid_set.specs.Sets.{Gtids}
use Rattle.gtid_set.proofs.SetLemmas.{gtid_tied}
use Rattle.apply_channel.specs.Channels.{ChannelValue, Received, blocker, first_waiting, are_settled, holds_back, settle, settle_channel, with_stopped, with_asked, with_received, received_as}
use Rattle.replica_core.specs.State.{State}
use Rattle.replica_core.specs.Machine.{is_in_the_way, is_open, blocking, open_before, change_at}
use Rattle.replica_core.specs.Kept.{FitsIf, IsKept, AreKept}

prefix_alike : {X : Type 0} (p q : X → Bool) (xs : List X) → All (λ x. p x ≡ q x) xs → prefix_len (λ x. not (p x)) xs ≡ prefix_len (λ x. not (q x)) xs
prefix_alike p q [] all = refl
prefix_alike p q (x ∷ xs) all =
    λ i. cond (not (all 0 x (omega arith) i)) (1 + prefix_alike p q xs (λ k d h. all (suc k) d (omega arith)) i) 0

-- two tests that agree on a list find the same place
pub position_alike : {X : Type 0} (p q : X → Bool) (xs : List X) → All (λ x. p x ≡ q x) xs → position p xs ≡ position q xs
position_alike p q xs all = ap (λ n. cond (nat_lt n (length xs)) (Some n) None) (prefix_alike p q xs all)

both : {T : Type 0} (f : T → Bool) (o : Option T) → option_map_or f o false ≡ (is_some o && option_map_or f o false)
both f None = refl
both f (Some t) = refl

way : (schema : List Table) (s : State) (t : Transaction) (e : Received) → IsKept schema s.executed e → holds_back schema t e ≡ is_in_the_way schema s t e
way schema s t e kept = both (λ u. conflicts schema u t) e.txn ∙ ap (λ b. b && option_map_or (λ u. conflicts schema u t) e.txn false) kept.waits

joined : {T : Type 0} (f g : T → Option ℕ) (o : Option T) → ((t : T) → f t ≡ g t) → option_and_then f o ≡ option_map_or g o None
joined f g None h = refl
joined f g (Some t) h = h t

-- what holds a place back in its channel is what is in its way in the state
pub blocker_is : (schema : List Table) (s : State) (channel : ChannelValue) (place : ℕ) (e : Received) → All (IsKept schema s.executed) channel.received → slice_get channel.received place ≡ Some e → blocker schema channel.received place ≡ option_map_or (blocking schema s channel place) e.txn None
blocker_is schema s channel place e kept at =
    ap (λ o. option_and_then (λ t. position (holds_back schema t) (take place channel.received)) (option_and_then (λ (r : Received). r.txn) o)) at
    ∙ joined (λ t. position (holds_back schema t) (take place channel.received)) (blocking schema s channel place) e.txn
    (λ t. position_alike (holds_back schema t) (is_in_the_way schema s t) (take place channel.received)
    (λ k d h. way schema s t _ (All-take (IsKept schema s.executed) place channel.received kept k d h)))

-- an element that was found passes what all pass
pub found : {X : Type 0} (P : X → Type 0) (xs : List X) (i : ℕ) (x : X) → All P xs → slice_get xs i ≡ Some x → P x
found P xs i x all at =
    elim ((slice_get_cases xs i).1) [
      | inl h ↦ subst P (get_or_from_slice_get xs i x x at) (all i x h.1)
      | inr h ↦ absurd (cc (sym at ∙ h.1))
    ]

-- the entries that have their transaction are those that are not executed
pub waiting_is : (schema : List Table) (s : State) (channel : ChannelValue) (place : ℕ) → All (IsKept schema s.executed) channel.received → first_waiting channel.received place ≡ open_before s channel place
waiting_is schema s channel place kept = position_alike (λ (e : Received). is_some e.txn) (is_open s) (take place channel.received) (All-take (λ (e : Received). is_some e.txn ≡ is_open s e) place channel.received (λ k d h. (kept k d h).waits))

-- ---- a GTID is executed

dropped : (b x : Bool) (e : Received) → is_some e.txn ≡ not x → is_some (cond b (record e { txn = None }) e).txn ≡ not (b || x)
dropped true x e kept = refl
dropped false x e kept = kept

same_name : (b : Bool) (e : Received) → (cond b (record e { txn = None }) e).gtid ≡ e.gtid
same_name true e = refl
same_name false e = refl

still_fits : (schema : List Table) (b : Bool) (e : Received) → FitsIf schema e.txn → FitsIf schema (cond b (record e { txn = None }) e).txn
still_fits schema true e fits = tt
still_fits schema false e fits = fits

settle_kept : (schema : List Table) (executed : Gtids) (g : Gtid) (e : Received) → IsKept schema executed e → IsKept schema (set.insert executed g) (settle g e)
settle_kept schema executed g e kept = record {
  waits =
      dropped (same_gtid e.gtid g) (set.contains executed e.gtid) e kept.waits
      ∙ sym (ap (λ h. not (set.contains (set.insert executed g) h)) (same_name (same_gtid e.gtid g) e)
      ∙ ap not (set.contains-insert gtid_total executed g e.gtid ∙ ap (λ b. b || set.contains executed e.gtid) (gtid_tied e.gtid g)));
  fits = still_fits schema (same_gtid e.gtid g) e kept.fits;
  number = ap (λ (h : Gtid). is_number h.number) (same_name (same_gtid e.gtid g) e) ∙ kept.number;
}

-- once a GTID is executed, each channel is still kept
pub kept_settled : (schema : List Table) (executed : Gtids) (g : Gtid) (channels : List ChannelValue) → AreKept schema executed channels → AreKept schema (set.insert executed g) (map (settle_channel g) channels)
kept_settled schema executed g channels kept =
    All-map (λ (c : ChannelValue). All (IsKept schema (set.insert executed g)) c.received) (settle_channel g) channels
    (λ k d h. All-map (IsKept schema (set.insert executed g)) (settle g) _ (λ i e l. settle_kept schema executed g _ (kept k d h i e l)))

-- ---- one channel changes

changed_by : {X : Type 0} (P : X → Type 0) (i : ℕ) (f : X → X) (xs : List X) (o : Option X) → slice_get xs i ≡ o → ((x : X) → P x → P (f x)) → All P xs → All P (option_map_or (λ x. slice_set xs i (f x)) o xs)
changed_by P i f xs None at keeps all = all
changed_by P i f xs (Some x) at keeps all = All-set P xs i (f x) (keeps x (found P xs i x all at)) all

pub All-changed_at : {X : Type 0} (P : X → Type 0) (i : ℕ) (f : X → X) (xs : List X) → ((x : X) → P x → P (f x)) → All P xs → All P (change_at i f xs)
All-changed_at P i f xs keeps all = changed_by P i f xs (slice_get xs i) refl keeps all

pub kept_stopped : (schema : List Table) (executed : Gtids) (c : ℕ) (flag : Bool) (channels : List ChannelValue) → AreKept schema executed channels → AreKept schema executed (change_at c (with_stopped flag) channels)
kept_stopped schema executed c flag channels kept = All-changed_at (λ (x : ChannelValue). All (IsKept schema executed) x.received) c (with_stopped flag) channels (λ x all. all) kept

pub kept_asked : (schema : List Table) (executed : Gtids) (c : ℕ) (asked : Gtids) (channels : List ChannelValue) → AreKept schema executed channels → AreKept schema executed (change_at c (with_asked asked) channels)
kept_asked schema executed c asked channels kept = All-changed_at (λ (x : ChannelValue). All (IsKept schema executed) x.received) c (with_asked asked) channels (λ x all. all) kept

taken_if : (b : Bool) (t : Transaction) → is_some (cond b None (Some t)) ≡ not b
taken_if true t = refl
taken_if false t = refl

fits_if : (schema : List Table) (b : Bool) (t : Transaction) → FitsIf schema (Some t) → FitsIf schema (cond b None (Some t))
fits_if schema true t fits = tt
fits_if schema false t fits = fits

pub kept_entry : (schema : List Table) (executed : Gtids) (e : Entry) → FitsIf schema (Some e.txn) → is_number e.gtid.number ≡ true → IsKept schema executed (received_as (set.contains executed e.gtid) e)
kept_entry schema executed e fits number = record {
  waits = taken_if (set.contains executed e.gtid) e.txn;
  fits = fits_if schema (set.contains executed e.gtid) e.txn fits;
  number = number;
}

pub kept_received : (schema : List Table) (executed : Gtids) (c : ℕ) (e : Received) (channels : List ChannelValue) → IsKept schema executed e → AreKept schema executed channels → AreKept schema executed (change_at c (with_received e) channels)
kept_received schema executed c e channels keeps kept =
    All-changed_at (λ (x : ChannelValue). All (IsKept schema executed) x.received) c (with_received e) channels
    (λ x all. All-append (IsKept schema executed) x.received (e ∷ []) all (All-cons (IsKept schema executed) e [] keeps (All-nil (IsKept schema executed)))) kept

-- ---- all are executed

alike : {X : Type 0} (p q : X → Bool) (xs : List X) → All (λ x. p x ≡ q x) xs → list_all p xs ≡ list_all q xs
alike p q [] all = refl
alike p q (x ∷ xs) all = λ i. all 0 x (omega arith) i && alike p q xs (λ k d h. all (suc k) d (omega arith)) i

pub gone_by : {X : Type 0} (o : Option X) (b : Bool) → is_some o ≡ not b → is_none o ≡ b
gone_by None true h = refl
gone_by None false h = absurd (cc h)
gone_by (Some x) true h = absurd (cc h)
gone_by (Some x) false h = refl

-- the entries without a transaction are those that are executed
pub settled_is : (schema : List Table) (executed : Gtids) (channels : List ChannelValue) → AreKept schema executed channels → list_all (λ (c : ChannelValue). are_settled c.received) channels ≡ list_all (λ (c : ChannelValue). list_all (λ (e : Received). set.contains executed e.gtid) c.received) channels
settled_is schema executed channels kept =
    alike (λ (c : ChannelValue). are_settled c.received) (λ (c : ChannelValue). list_all (λ (e : Received). set.contains executed e.gtid) c.received) channels
    (λ k d h. alike (λ (e : Received). is_none e.txn) (λ (e : Received). set.contains executed e.gtid) _ (λ j e l. gone_by _ _ (kept k d h j e l).waits))
