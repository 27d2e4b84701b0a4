-- What one event of a replica makes known to it, and which number a local commit takes.
use Rattle.std.proofs.Common.{◌≡◌, ℕ, zero, suc, ◌<◌, ◌≤◌, ◌+◌, Bool, true, false, not, cond, ◌&&◌, ◌⊎◌, inl, inr, [], ◌∷◌, Option, Some, None, Result, Ok, Err, refl, sym, ap, ◌∙◌, subst, arith}
use Rattle.std.specs.Prelude.{is_none, find, slice_get}
use Rattle.std.specs.Option.{option_map_or, option_and_then}
use Rattle.std.specs.List.{range_with_len}
use Rattle.std.specs.FinMap as finmap
use Rattle.std.specs.FinSet as set
use Rattle.std.proofs.Math.Nat.{eq-or-lt_of_le}
use Rattle.std.proofs.lemmas.Bool.{or_cases, or_left, or_right, and_parts}
use Rattle.std.proofs.lemmas.Option.{same_Some}
use Rattle.lemmas.proofs.Options.{none_some, map_some, and_then_some, on_option}
use Rattle.lemmas.proofs.Tests.{never}
use Rattle.lemmas.proofs.Lists.{found_passes}
use Rattle.lemmas.proofs.SameGtid.{same_itself, same_is_equal}
use Rattle.gtid_text.specs.declared.Gtid.{Gtid}
use Rattle.gtid_text.specs.Gtids.{same_gtid}
use Rattle.gtid_set.specs.Sets.{gtid, greatest, least_number}
use Rattle.rows.specs.declared.change.Transaction.{Transaction}
use Rattle.rows.specs.declared.change.RowFault.{RowFault}
use Rattle.rows.specs.Fits.{misfit}
use Rattle.rows.specs.Apply.{Rows, apply}
use Rattle.rows.specs.Conflicts.{conflicts}
use Rattle.journal.specs.declared.Entry.{Entry}
use Rattle.apply_channel.specs.Channels.{ChannelValue, Received}
use Rattle.replica_core.specs.declared.event.Event.{Event}
use Rattle.replica_core.specs.declared.event.Event.TheVariants.{OpenChannel, Position, Receive, Take, Commit, Rollback, Restart, Local, Purge, Look}
use Rattle.replica_core.specs.declared.event.Reply.{Reply}
use Rattle.replica_core.specs.declared.event.Reply.TheVariants.{NotInSchema}
use Rattle.replica_core.specs.State.{State, Site, entry_at, owned_by, owns, seat_numbers, owner}
use Rattle.replica_core.specs.Machine.{Step, is_free, next_number, local_answer, local, step}
use Rattle.replica_core.proofs.ReceiveLemmas.{found_within}
use Rattle.history.specs.World.{OrderedWorld, content, Precedes}
use Rattle.history.proofs.Covering.{in_insert}
use Rattle.convergence.specs.Faithful.{Since, IsFaithfulStep}
use Rattle.convergence.specs.Served.{accepted_entries, committed_here}
use Rattle.convergence.proofs.Invariant.{IsIn}
use Rattle.convergence.proofs.Growing.{Somewhere, Known, step_grows, gains_settled}
use Rattle.network.specs.Machine.{is_for_network}
use Rattle.network.specs.Sending.{is_entry}

-- ---- the least number that is free

pub least_is_free : (test : ℕ → Bool) (n : ℕ) → least_number test ≡ Some n → test n ≡ true
unfolding least_number
least_is_free test n f = found_passes test (range_with_len 1 greatest) n f

-- a number before the first of a range that passes fails
fails_by : (test : ℕ → Bool) (a n m : ℕ) (b : Bool) (rest : Option ℕ) → test a ≡ b → (rest ≡ Some n → a + 1 ≤ m → test m ≡ false) → cond b (Some a) rest ≡ Some n → a ≤ m → m < n → test m ≡ false
fails_by test a n m true rest t later e low high = let same : a ≡ n = same_Some a n e in absurd (omega arith)
fails_by test a n m false rest t later e low high = elim (eq-or-lt_of_le {n = a} {m = m} low) [
  | inl same ↦ ap test (sym same) ∙ t
  | inr less ↦ later e (omega arith)
]

fails_before : (test : ℕ → Bool) (count a n m : ℕ) → find test (range_with_len a count) ≡ Some n → a ≤ m → m < n → test m ≡ false
fails_before test zero a n m e low high = none_some n e
fails_before test (suc count) a n m e low high =
    fails_by test a n m (test a) (find test (range_with_len (a + 1) count)) refl (λ f l. fails_before test count (a + 1) n m f l high) e low high

pub least_is_positive : (test : ℕ → Bool) (n : ℕ) → least_number test ≡ Some n → 0 < n
unfolding least_number
least_is_positive test n e = let w = found_within test greatest 1 n e in omega (arith, w.0)

pub least_is_first : (test : ℕ → Bool) (n m : ℕ) → least_number test ≡ Some n → 0 < m → m < n → test m ≡ false
unfolding least_number
least_is_first test n m e low high = fails_before test greatest 1 n m e low high

-- ---- what is not free is known

-- what a seat owns was received
owned_received : (s : State) (g : Gtid) (seat : ℕ) (o : Option Gtid) → owned_by s seat ≡ o → option_map_or (λ h. same_gtid h g) o false ≡ true → Somewhere s.channels g
owned_received s g seat None is owns_it = never owns_it
owned_received s g seat (Some h) is owns_it =
    let entry = map_some (λ (e : Received). e.gtid) (option_and_then (entry_at s) (finmap.get s.seats seat)) h is in
    let spot = and_then_some (entry_at s) (finmap.get s.seats seat) entry.0 entry.1 in
    let channel = and_then_some (λ (ch : ChannelValue). slice_get ch.received spot.0.place) (slice_get s.channels spot.0.channel) entry.0 spot.2 in
    (spot.0.channel, channel.0, channel.1, (spot.0.place, entry.0, channel.2, entry.2 ∙ same_is_equal h g owns_it))

owner_received : (s : State) (g : Gtid) (o : Option ℕ) → owner s g ≡ o → is_none o ≡ false → Somewhere s.channels g
owner_received s g None is some = cc
owner_received s g (Some seat) is some = owned_received s g seat (owned_by s seat) refl (found_passes (owns s g) seat_numbers seat is)

known_by : (s : State) (g : Gtid) (done : Bool) (o : Option ℕ) → set.contains s.executed g ≡ done → owner s g ≡ o → (not done && is_none o) ≡ false → Known s g
known_by s g true o e f n = inl e
known_by s g false o e f n = inr (owner_received s g o f n)

-- ---- what is committed here

-- a local commit takes a number of the own UUID that is not executed here, and its transaction applied
pub record IsNext (site : Site) (s : State) (x : Entry) : Type 0 where
  pub source : x.gtid.source ≡ site.own
  pub new : set.contains s.executed x.gtid ≡ false
  pub rows : Rows
  pub applies : apply site.schema x.txn s.rows ≡ Ok rows
  -- the number is from 1 on, and each smaller one is known here
  pub positive : 0 < x.gtid.number
  pub smaller : (m : ℕ) → 0 < m → m < x.gtid.number → Known s (gtid site.own m)

next_of : (site : Site) (s : State) (n : ℕ) (t : Transaction) (rows : Rows) → next_number site s ≡ Some n → apply site.schema t s.rows ≡ Ok rows → IsNext site s (record { gtid = gtid site.own n; txn = t })
next_of site s n t rows e applied =
    let free : is_free site s n ≡ true = least_is_free (is_free site s) n e in
    let parts = and_parts (not (set.contains s.executed (gtid site.own n))) (is_none (owner s (gtid site.own n))) free in
    record {
      source = refl;
      new = not_true_at (set.contains s.executed (gtid site.own n)) parts.0;
      rows = rows;
      applies = applied;
      positive = least_is_positive (is_free site s) n e;
      smaller = λ m low high. known_by s (gtid site.own m) (set.contains s.executed (gtid site.own m)) (owner s (gtid site.own m)) refl refl (least_is_first (is_free site s) n m e low high);
    }
  where
    not_true_at : (b : Bool) → not b ≡ true → b ≡ false
    not_true_at true h = cc
    not_true_at false h = refl

-- ---- one event

pub record Learns (site : Site) (s : State) (event : Event) (after : Step) : Type 0 where
  pub origin : (g : Gtid) → Known after.1 g → Known s g ⊎ (is_entry (accepted_entries event after.0) g ≡ true) ⊎ (is_entry (committed_here event after.0) g ≡ true)
  pub kept : (g : Gtid) → set.contains s.executed g ≡ true → set.contains after.1.executed g ≡ true
  -- what is committed by Local
  pub put : (x : Entry) → IsIn x (committed_here event after.0) → set.contains after.1.executed x.gtid ≡ true
  pub next : (x : Entry) → IsIn x (committed_here event after.0) → IsNext site s x
  pub alone : (committed_here event after.0 ≡ []) ⊎ ((x : Entry) × (committed_here event after.0 ≡ x ∷ []))

module _ (site : Site) (s : State) where
  local_same : (t : Transaction) (r : Reply) → committed_here (Local t) r ≡ [] → Learns site s (Local t) (r, s)
  local_same t r none = record {
    origin = λ g k. inl k;
    kept = λ g done. done;
    put = λ x i. absurd (subst (IsIn x) none i);
    next = λ x i. absurd (subst (IsIn x) none i);
    alone = inl none;
  }

  local_by : (n : ℕ) (t : Transaction) → next_number site s ≡ Some n → (r : Result Rows RowFault) → apply site.schema t s.rows ≡ r → Learns site s (Local t) (local_answer (gtid site.own n) t s r)
  local_by n t is (Err fault) e = local_same t _ refl
  local_by n t is (Ok rows) e =
      let g : Gtid = gtid site.own n in
      let gains = gains_settled s.channels g in
      record {
        origin = λ h k. elim k [
          | inl done ↦ elim (or_cases (same_gtid h g) (set.contains s.executed h) (sym (in_insert s.executed g h) ∙ done)) [
            | inl same ↦ inr (inr (or_left (same_gtid h g) false same))
            | inr was ↦ inl (inl was)
          ]
          | inr w ↦ elim (gains.origin h w) [ inl was ↦ inl (inr was) | inr missing ↦ inr (inl missing) ]
        ];
        kept = λ h done. in_insert s.executed g h ∙ or_right (same_gtid h g) (set.contains s.executed h) done;
        put = λ x i. elim i [
          | inl same ↦ subst (λ (y : Entry). set.contains (set.insert s.executed g) y.gtid ≡ true) same (in_insert s.executed g g ∙ or_left (same_gtid g g) (set.contains s.executed g) (same_itself g))
          | inr none ↦ absurd none
        ];
        next = λ x i. elim i [
          | inl same ↦ subst (IsNext site s) same (next_of site s n t rows is e)
          | inr none ↦ absurd none
        ];
        alone = inr (record { gtid = g; txn = t }, refl);
      }

  local_learns : (t : Transaction) → Learns site s (Local t) (local site t s)
  local_learns t =
      on_option (Learns site s (Local t)) (λ fault. (NotInSchema fault, s)) (misfit site.schema t) _
      (λ e. on_option (Learns site s (Local t)) _ (next_number site s) _
      (λ n. local_same t _ refl)
      (λ n is. local_by n t is (apply site.schema t s.rows) refl))
      (λ fault e. local_same t _ refl)

  pub step_learns : (e : Event) → Learns site s e (step site s e)
  step_learns (OpenChannel name preserve) = let g = (step_grows site s (OpenChannel name preserve)).grows tt in record { origin = λ h k. elim (g.origin h k) [ inl was ↦ inl was | inr is ↦ inr (inl is) ]; kept = g.kept; put = λ x i. absurd i; next = λ x i. absurd i; alone = inl refl }
  step_learns (Position c) = let g = (step_grows site s (Position c)).grows tt in record { origin = λ h k. elim (g.origin h k) [ inl was ↦ inl was | inr is ↦ inr (inl is) ]; kept = g.kept; put = λ x i. absurd i; next = λ x i. absurd i; alone = inl refl }
  step_learns (Receive c entry) = let g = (step_grows site s (Receive c entry)).grows tt in record { origin = λ h k. elim (g.origin h k) [ inl was ↦ inl was | inr is ↦ inr (inl is) ]; kept = g.kept; put = λ x i. absurd i; next = λ x i. absurd i; alone = inl refl }
  step_learns (Take seat c p) = let g = (step_grows site s (Take seat c p)).grows tt in record { origin = λ h k. elim (g.origin h k) [ inl was ↦ inl was | inr is ↦ inr (inl is) ]; kept = g.kept; put = λ x i. absurd i; next = λ x i. absurd i; alone = inl refl }
  step_learns (Commit seat) = let g = (step_grows site s (Commit seat)).grows tt in record { origin = λ h k. elim (g.origin h k) [ inl was ↦ inl was | inr is ↦ inr (inl is) ]; kept = g.kept; put = λ x i. absurd i; next = λ x i. absurd i; alone = inl refl }
  step_learns (Rollback seat) = let g = (step_grows site s (Rollback seat)).grows tt in record { origin = λ h k. elim (g.origin h k) [ inl was ↦ inl was | inr is ↦ inr (inl is) ]; kept = g.kept; put = λ x i. absurd i; next = λ x i. absurd i; alone = inl refl }
  step_learns (Restart c) = let g = (step_grows site s (Restart c)).grows tt in record { origin = λ h k. elim (g.origin h k) [ inl was ↦ inl was | inr is ↦ inr (inl is) ]; kept = g.kept; put = λ x i. absurd i; next = λ x i. absurd i; alone = inl refl }
  step_learns (Local t) = local_learns t
  step_learns (Purge k) = let g = (step_grows site s (Purge k)).grows tt in record { origin = λ h q. elim (g.origin h q) [ inl was ↦ inl was | inr is ↦ inr (inl is) ]; kept = g.kept; put = λ x i. absurd i; next = λ x i. absurd i; alone = inl refl }
  step_learns Look = let g = (step_grows site s Look).grows tt in record { origin = λ h k. elim (g.origin h k) [ inl was ↦ inl was | inr is ↦ inr (inl is) ]; kept = g.kept; put = λ x i. absurd i; next = λ x i. absurd i; alone = inl refl }

-- ---- when a local commit is faithful

abbrev pub IsInOrder : OrderedWorld → Site → State → Entry → Type 0
IsInOrder world site s x = (content world x.gtid ≡ Some x.txn) × ((h : Gtid) (t : Transaction) → Precedes world.order (h, t) (x.gtid, x.txn) → conflicts world.schema t x.txn ≡ true → set.contains s.executed h ≡ true)

pub record IsFaithfulLocal (world : OrderedWorld) (site : Site) (s : State) (since : Since) (t : Transaction) (after : Step) : Type 0 where
  pub faithful : ((x : Entry) → IsIn x (committed_here (Local t) after.0) → IsInOrder world site s x) → IsFaithfulStep world site s since (Local t) after.0

local_faithful_by : (world : OrderedWorld) (site : Site) (s : State) (since : Since) (g : Gtid) (t : Transaction) (r : Result Rows RowFault) → IsFaithfulLocal world site s since t (local_answer g t s r)
local_faithful_by world site s since g t (Ok rows) = record { faithful = λ h. h (record { gtid = g; txn = t }) (inl refl) }
local_faithful_by world site s since g t (Err fault) = record { faithful = λ h. tt }

local_faithful : (world : OrderedWorld) (site : Site) (s : State) (since : Since) (t : Transaction) → IsFaithfulLocal world site s since t (local site t s)
local_faithful world site s since t =
    on_option (IsFaithfulLocal world site s since t) (λ fault. (NotInSchema fault, s)) (misfit site.schema t) _
    (λ e. on_option (IsFaithfulLocal world site s since t) _ (next_number site s) _
    (λ n. record { faithful = λ h. tt })
    (λ n is. local_faithful_by world site s since (gtid site.own n) t (apply site.schema t s.rows)))
    (λ fault e. record { faithful = λ h. tt })

-- an event of a node's own is faithful, if what it commits by Local is
pub own_is_faithful : (world : OrderedWorld) (site : Site) (s : State) (since : Since) (e : Event) → is_for_network e ≡ false
    → ((x : Entry) → IsIn x (committed_here e (step site s e).0) → IsInOrder world site s x) → IsFaithfulStep world site s since e (step site s e).0
own_is_faithful world site s since (OpenChannel name preserve) n h = tt
own_is_faithful world site s since (Position c) n h = tt
own_is_faithful world site s since (Receive c entry) n h = cc
own_is_faithful world site s since (Take seat c p) n h = tt
own_is_faithful world site s since (Commit seat) n h = tt
own_is_faithful world site s since (Rollback seat) n h = tt
own_is_faithful world site s since (Restart c) n h = tt
own_is_faithful world site s since (Local t) n h = (local_faithful world site s since t).faithful h
own_is_faithful world site s since (Purge k) n h = tt
own_is_faithful world site s since Look n h = tt
