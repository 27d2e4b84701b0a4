-- A channel that is positioned keeps the set that it asked with, until it is positioned again.
use Rattle.std.proofs.Common.{◌≡◌, ℕ, Bool, true, false, cond, not, ◌⊎◌, inl, inr, List, [], ◌∷◌, ◌++◌, map, length, Some, None, Result, Ok, Err, refl, sym, ap, ◌∙◌}
use Rattle.std.specs.Prelude.{slice_get, slice_set, nat_le, nat_lt}
use Rattle.std.specs.Option.{option_map_or, option_and_then}
use Rattle.std.specs.List.{list_any}
use Rattle.std.specs.FinSet as set
use Rattle.std.proofs.lemmas.Bool.{eq-eqb}
use Rattle.rows.specs.declared.change.Transaction.{Transaction}
use Rattle.rows.specs.declared.change.RowFault.{RowFault}
use Rattle.rows.specs.Fits.{misfit}
use Rattle.rows.specs.Apply.{Rows, apply}
use Rattle.gtid_text.specs.declared.Gtid.{Gtid}
use Rattle.gtid_set.specs.Sets.{Gtids, gtid}
use Rattle.journal.specs.declared.Entry.{Entry}
use Rattle.apply_channel.specs.Channels.{ChannelValue, settle_channel, same_name, is_full}
use Rattle.replica_core.specs.declared.event.Event.{Event}
use Rattle.replica_core.specs.declared.event.Event.TheVariants.{OpenChannel, Position, Receive, Take, Commit, Rollback, Restart, Local, Purge, Look}
use Rattle.replica_core.specs.declared.event.Reply.{Reply}
use Rattle.replica_core.specs.declared.event.Reply.TheVariants.{NotInSchema, Ask, SeatBusy, OwnedBy, Blocked, Early, RolledBack, Restarted}
use Rattle.replica_core.specs.State.{State, Site, owned_by, owner}
use Rattle.replica_core.specs.Machine.{Step, is_seat, ask, blocking, open_before, with_channel, without_seat, set_stopped_at, open_channel, position_on, receive, take_entry, take_place, held, commit_answer, commit_held, commit, rollback, restart, next_number, local_answer, local, purge, step}
use Rattle.convergence.proofs.Receiving.{received_entry}
use Rattle.convergence.specs.Whole.{is_position}
use Rattle.std.proofs.lemmas.Option.{same_Some}
use Rattle.lemmas.proofs.Options.{and_then_some, on_option}
use Rattle.lemmas.proofs.Lists.{get_set_from, get_map, get_append_left}
use Rattle.lemmas.proofs.Tests.{on_test, not_both}

abbrev pub Asks : List ChannelValue → ℕ → Gtids → Type 0
Asks channels k A = option_and_then (λ channel. channel.asked) (slice_get channels k) ≡ Some A

abbrev pub Alike : (ℕ → Bool) → List ChannelValue → List ChannelValue → Type 0
Alike but old new = (k : ℕ) (A : Gtids) → but k ≡ false → Asks old k A → Asks new k A

asks_at : (channels : List ChannelValue) (k : ℕ) (A : Gtids) (ch : ChannelValue) → slice_get channels k ≡ Some ch → ch.asked ≡ Some A → Asks channels k A
asks_at channels k A ch e a = ap (option_and_then (λ (x : ChannelValue). x.asked)) e ∙ a

alike_push : (but : ℕ → Bool) (channels : List ChannelValue) (new : ChannelValue) → Alike but channels (channels ++ new ∷ [])
alike_push but channels new k A n h =
    let r = and_then_some (λ (x : ChannelValue). x.asked) (slice_get channels k) A h in
    asks_at (channels ++ new ∷ []) k A r.0 (get_append_left channels (new ∷ []) k r.0 r.1) r.2

alike_set : (but : ℕ → Bool) (channels : List ChannelValue) (c : ℕ) (old new : ChannelValue) → slice_get channels c ≡ Some old → (but c ≡ true) ⊎ (new.asked ≡ old.asked) → Alike but channels (slice_set channels c new)
alike_set but channels c old new here change k A n h =
    let r = and_then_some (λ (x : ChannelValue). x.asked) (slice_get channels k) A h in
    elim (get_set_from channels c new k r.0 r.1) [
      | inl same ↦ asks_at (slice_set channels c new) k A r.0 same r.2
      | inr at ↦ elim change [
        | inl but_c ↦ not_both (but k) (ap but at.0 ∙ but_c) n
        | inr same ↦
            let is_old : r.0 ≡ old = same_Some r.0 old (sym r.1 ∙ (ap (slice_get channels) at.0 ∙ here)) in
            asks_at (slice_set channels c new) k A new at.1 (same ∙ (ap (λ (x : ChannelValue). x.asked) (sym is_old) ∙ r.2))
      ]
    ]

alike_settled : (but : ℕ → Bool) (channels : List ChannelValue) (g : Gtid) → Alike but channels (map (settle_channel g) channels)
alike_settled but channels g k A n h =
    let r = and_then_some (λ (x : ChannelValue). x.asked) (slice_get channels k) A h in
    asks_at (map (settle_channel g) channels) k A (settle_channel g r.0) (get_map (settle_channel g) channels k r.0 r.1) r.2

-- a positioned channel stays so, but for the channel that the event positions
pub record StepAsks (s : State) (event : Event) (after : Step) : Type 0 where
  pub asks : Alike (λ k. is_position k event) s.channels after.1.channels

module _ (site : Site) (s : State) where
  abbrev quiet : (event : Event) (reply : Reply) → StepAsks s event (reply, s)
  quiet event reply = record { asks = λ k A n h. h }

  open_asks : (name : List ℕ) (preserve : Bool) → StepAsks s (OpenChannel name preserve) (open_channel name preserve s)
  open_asks name preserve =
      on_test (StepAsks s (OpenChannel name preserve)) (list_any (λ (c : ChannelValue). same_name c.name name) s.channels) _ _
      (λ e. record { asks = λ k A n h. h })
      (λ e. on_test (StepAsks s (OpenChannel name preserve)) (nat_le 256 (length s.channels)) _ _
      (λ g. record { asks = λ k A n h. h })
      (λ g. record { asks = alike_push _ s.channels _ }))

  position_asks : (c : ℕ) → StepAsks s (Position c) (position_on c s)
  position_asks c =
      on_option (StepAsks s (Position c)) (λ channel. (Ask (ask s channel), with_channel s c (record channel { asked = Some (ask s channel) }))) (slice_get s.channels c) _
      (λ e. record { asks = λ k A n h. h })
      (λ ch e. record { asks = alike_set (λ k. is_position k (Position c)) s.channels c ch (record ch { asked = Some (ask s ch) }) e (inl (eq-eqb c c refl)) })

  restart_asks : (c : ℕ) → StepAsks s (Restart c) (restart c s)
  restart_asks c =
      on_option (StepAsks s (Restart c)) (λ channel. (Restarted, with_channel s c (record channel { stopped = false }))) (slice_get s.channels c) _
      (λ e. record { asks = λ k A n h. h })
      (λ ch e. record { asks = alike_set (λ k. false) s.channels c ch (record ch { stopped = false }) e (inr refl) })

  receive_asks : (c : ℕ) (entry : Entry) → StepAsks s (Receive c entry) (receive site c entry s)
  receive_asks c entry =
      on_option (StepAsks s (Receive c entry)) _ (slice_get s.channels c) _
      (λ e. record { asks = λ k A n h. h })
      (λ ch e. on_option (StepAsks s (Receive c entry)) _ ch.asked _
      (λ n. record { asks = λ k A n h. h })
      (λ A a. on_option (StepAsks s (Receive c entry)) (λ fault. (NotInSchema fault, s)) (misfit site.schema entry.txn) _
      (λ n. on_test (StepAsks s (Receive c entry)) (is_full ch) _ _
      (λ m. record { asks = λ k A n h. h })
      (λ m. record { asks = alike_set (λ k. false) s.channels c ch (record ch { received = ch.received ++ received_entry s entry ∷ [] }) e (inr refl) }))
      (λ fault n. record { asks = λ k A n h. h })))

  take_asks : (seat c p : ℕ) → StepAsks s (Take seat c p) (take_place site seat c p s)
  take_asks seat c p =
      on_test (StepAsks s (Take seat c p)) (not (is_seat seat)) _ _
      (λ e. record { asks = λ k A n h. h })
      (λ e. on_option (StepAsks s (Take seat c p)) (λ g. (SeatBusy g, s)) (owned_by s seat) _
      (λ n. on_option (StepAsks s (Take seat c p)) _ (slice_get s.channels c) _
      (λ m. record { asks = λ k A n h. h })
      (λ ch here. on_option (StepAsks s (Take seat c p)) (λ x. take_entry site seat c p ch x s) (slice_get ch.received p) _
      (λ m. record { asks = λ k A n h. h })
      (λ x there. on_test (StepAsks s (Take seat c p)) ch.stopped _ _
      (λ m. record { asks = λ k A n h. h })
      (λ m. on_test (StepAsks s (Take seat c p)) (set.contains s.executed x.gtid) _ _
      (λ done. record { asks = λ k A n h. h })
      (λ new. on_option (StepAsks s (Take seat c p)) (λ other. (OwnedBy other, s)) (owner s x.gtid) _
      (λ unowned. on_option (StepAsks s (Take seat c p)) (λ q. (Blocked q, s)) (option_map_or (blocking site.schema s ch p) x.txn None) _
      (λ unblocked. record { asks = λ k A n h. h })
      (λ q m. record { asks = λ k A n h. h }))
      (λ other m. record { asks = λ k A n h. h }))))))
      (λ g n. record { asks = λ k A n h. h }))

  rollback_asks : (seat : ℕ) → StepAsks s (Rollback seat) (rollback seat s)
  rollback_asks seat =
      on_test (StepAsks s (Rollback seat)) (not (is_seat seat)) _ _
      (λ e. record { asks = λ k A n h. h })
      (λ e. on_option (StepAsks s (Rollback seat)) (λ h. (RolledBack h.gtid, without_seat s seat)) (held s seat) _
      (λ n. record { asks = λ k A n h. h })
      (λ h n. record { asks = λ k A m i. i }))

  stopped_alike : (c : ℕ) → Alike (λ k. false) s.channels (set_stopped_at true c s.channels)
  stopped_alike c =
      on_option (λ xs. Alike (λ k. false) s.channels xs) (λ channel. slice_set s.channels c (record channel { stopped = true })) (slice_get s.channels c) s.channels
      (λ e k A n h. h)
      (λ ch e. alike_set (λ k. false) s.channels c ch (record ch { stopped = true }) e (inr refl))

  answer_asks : (seat c : ℕ) (g : Gtid) (t : Transaction) (r : Result Rows RowFault) → StepAsks s (Commit seat) (commit_answer g t seat c s r)
  answer_asks seat c g t (Ok rows) = record { asks = alike_settled (λ k. false) s.channels g }
  answer_asks seat c g t (Err fault) = record { asks = stopped_alike c }

  commit_asks : (seat : ℕ) → StepAsks s (Commit seat) (commit site seat s)
  commit_asks seat =
      on_test (StepAsks s (Commit seat)) (not (is_seat seat)) _ _
      (λ e. record { asks = λ k A n h. h })
      (λ e. on_option (StepAsks s (Commit seat)) (commit_held site seat s) (held s seat) _
      (λ n. record { asks = λ k A n h. h })
      (λ h is. on_option (StepAsks s (Commit seat)) (λ q. (Early q, s)) (cond h.channel.preserve (open_before s h.channel h.spot.place) None) _
      (λ n. answer_asks seat h.spot.channel h.gtid h.txn (apply site.schema h.txn s.rows))
      (λ q n. record { asks = λ k A m i. i })))

  local_by : (g : Gtid) (t : Transaction) (r : Result Rows RowFault) → StepAsks s (Local t) (local_answer g t s r)
  local_by g t (Ok rows) = record { asks = alike_settled (λ k. false) s.channels g }
  local_by g t (Err fault) = record { asks = λ k A n h. h }

  local_asks : (t : Transaction) → StepAsks s (Local t) (local site t s)
  local_asks t =
      on_option (StepAsks s (Local t)) (λ fault. (NotInSchema fault, s)) (misfit site.schema t) _
      (λ e. on_option (StepAsks s (Local t)) _ (next_number site s) _
      (λ n. record { asks = λ k A n h. h })
      (λ n is. local_by (gtid site.own n) t (apply site.schema t s.rows)))
      (λ fault e. record { asks = λ k A n h. h })

  purge_asks : (k : ℕ) → StepAsks s (Purge k) (purge k s)
  purge_asks k =
      on_test (StepAsks s (Purge k)) (nat_lt (length s.journal.entries) k) _ _
      (λ e. record { asks = λ k A n h. h })
      (λ e. record { asks = λ k A n h. h })

  pub step_asks : (e : Event) → StepAsks s e (step site s e)
  step_asks (OpenChannel name preserve) = open_asks name preserve
  step_asks (Position c) = position_asks c
  step_asks (Receive c entry) = receive_asks c entry
  step_asks (Take seat c p) = take_asks seat c p
  step_asks (Commit seat) = commit_asks seat
  step_asks (Rollback seat) = rollback_asks seat
  step_asks (Restart c) = restart_asks c
  step_asks (Local t) = local_asks t
  step_asks (Purge k) = purge_asks k
  step_asks Look = record { asks = λ k A n h. h }
