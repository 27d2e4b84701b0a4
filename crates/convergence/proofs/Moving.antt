-- One event of a replica, variant by variant.
use Rattle.std.proofs.Common.{◌≡◌, ℕ, Bool, true, false, cond, not, ◌||◌, inl, inr, List, [], ◌∷◌, ◌++◌, map, length, take, Some, None, Result, Ok, Err, refl, sym, ap, ◌∙◌, subst}
use Rattle.std.specs.Prelude.{slice_get, slice_set, nat_le, nat_lt}
use Rattle.std.specs.Option.{option_map_or, option_and_then}
use Rattle.std.specs.List.{list_any}
use Rattle.std.specs.FinMap as finmap
use Rattle.std.specs.FinSet as set
use Rattle.std.proofs.lemmas.List.{take-append-drop}
use Rattle.lemmas.proofs.Tests.{on_test}
use Rattle.lemmas.proofs.Options.{map_some, and_then_some, on_option}
use Rattle.gtid_text.specs.declared.Gtid.{Gtid}
use Rattle.gtid_set.specs.Sets.{Gtids, gtid}
use Rattle.rows.specs.declared.change.Transaction.{Transaction}
use Rattle.rows.specs.declared.change.RowFault.{RowFault}
use Rattle.rows.specs.Fits.{misfit}
use Rattle.rows.specs.Apply.{Rows, apply}
use Rattle.journal.specs.declared.Entry.{Entry}
use Rattle.apply_channel.specs.Channels.{ChannelValue, received_as, settle_channel, same_name, is_full}
use Rattle.replica_core.specs.declared.event.Event.{Event}
use Rattle.replica_core.specs.declared.event.Event.TheVariants.{OpenChannel, Position, Receive, Take, Commit, Rollback, Restart, Local, Purge, Look}
use Rattle.replica_core.specs.declared.event.Reply.{Reply}
use Rattle.replica_core.specs.declared.event.Reply.TheVariants.{NotInSchema, Ask, SeatBusy, OwnedBy, Blocked, Early, RolledBack, Restarted}
use Rattle.replica_core.specs.State.{State, Site, owned_by, owner}
use Rattle.replica_core.specs.Machine.{is_seat, ask, blocking, open_before, with_channel, without_seat, set_stopped_at, open_channel, position_on, receive, take_entry, take_place, Held, held_of, held_at, held, commit_answer, commit_held, commit, rollback, restart, next_number, local_answer, local, purge, step}
use Rattle.history.proofs.Covering.{in_insert}
use Rattle.convergence.proofs.Steps.{free_number}
use Rattle.convergence.specs.Logs.{held_entry, committed}
use Rattle.convergence.proofs.Waiting.{Waits, waits_push, waits_set, waits_set_same, waits_received, waits_settled}
use Rattle.convergence.proofs.Telling.{Rests, Came, Tells}

-- what waits waited before
was : (s s' : State) (event : Event) (r : Reply) (x : Entry) → s'.executed ≡ s.executed → Waits s.channels x → Came s s' event r x
was s s' event r x same w = record { from = inl w; executed = ap (λ (y : Gtids). set.contains y x.gtid) same }

-- an event that only changes channels or seats
quiet : (s s' : State) → s'.rows ≡ s.rows → s'.executed ≡ s.executed → s'.journal.entries ≡ s.journal.entries → Rests s s' []
quiet s s' rows executed journal = record { none = refl; rows = rows; executed = executed; purged = []; journal = journal }

module _ (site : Site) (s : State) where
  -- nothing changes
  same : (event : Event) (r : Reply) → committed s event r ≡ [] → Tells site s event (r, s)
  same event r none = record { came = λ x w. was s s event r x refl w; made = inl (record { none = none; rows = refl; executed = refl; purged = []; journal = refl }) }

  open_tells : (name : List ℕ) (preserve : Bool) → Tells site s (OpenChannel name preserve) (open_channel name preserve s)
  open_tells name preserve =
      on_test (Tells site s (OpenChannel name preserve)) (list_any (λ (c : ChannelValue). same_name c.name name) s.channels) _ _
      (λ e. same (OpenChannel name preserve) _ refl)
      (λ e. on_test (Tells site s (OpenChannel name preserve)) (nat_le 256 (length s.channels)) _ _
      (λ g. same (OpenChannel name preserve) _ refl)
      (λ g. record { came = λ x w. was s _ _ _ x refl (waits_push s.channels _ x refl w); made = inl (quiet s _ refl refl refl) }))

  position_tells : (c : ℕ) → Tells site s (Position c) (position_on c s)
  position_tells c =
      on_option (Tells site s (Position c)) (λ channel. (Ask (ask s channel), with_channel s c (record channel { asked = Some (ask s channel) }))) (slice_get s.channels c) _
      (λ e. same (Position c) _ refl)
      (λ ch e. record { came = λ x w. was s _ _ _ x refl (waits_set_same s.channels c ch (record ch { asked = Some (ask s ch) }) x e refl w); made = inl (quiet s _ refl refl refl) })

  restart_tells : (c : ℕ) → Tells site s (Restart c) (restart c s)
  restart_tells c =
      on_option (Tells site s (Restart c)) (λ channel. (Restarted, with_channel s c (record channel { stopped = false }))) (slice_get s.channels c) _
      (λ e. same (Restart c) _ refl)
      (λ ch e. record { came = λ x w. was s _ _ _ x refl (waits_set_same s.channels c ch (record ch { stopped = false }) x e refl w); made = inl (quiet s _ refl refl refl) })

  receive_tells : (c : ℕ) (entry : Entry) → Tells site s (Receive c entry) (receive site c entry s)
  receive_tells c entry =
      on_option (Tells site s (Receive c entry)) _ (slice_get s.channels c) _
      (λ e. same (Receive c entry) _ refl)
      (λ ch e. on_option (Tells site s (Receive c entry)) _ ch.asked _
      (λ n. same (Receive c entry) _ refl)
      (λ A a. on_option (Tells site s (Receive c entry)) (λ fault. (NotInSchema fault, s)) (misfit site.schema entry.txn) _
      (λ n. on_test (Tells site s (Receive c entry)) (is_full ch) _ _
      (λ m. same (Receive c entry) _ refl)
      (λ m. record {
        came = λ x w. record {
          from = elim (waits_set ((set.contains s.executed entry.gtid ≡ false) × (entry ≡ x)) s.channels c ch (record ch { received = ch.received ++ received_as (set.contains s.executed entry.gtid) entry ∷ [] }) x e
              (λ v. waits_received ch.received (set.contains s.executed entry.gtid) entry x v) w) [
                | inl before ↦ inl before
                | inr came ↦ inr (inl came.1, ap (λ (y : Entry). set.contains s.executed y.gtid) (sym came.1) ∙ came.0)
              ];
          executed = refl;
        };
        made = inl (quiet s _ refl refl refl);
      }))
      (λ fault n. same (Receive c entry) _ refl)))

  take_tells : (seat c p : ℕ) → Tells site s (Take seat c p) (take_place site seat c p s)
  take_tells seat c p =
      on_test (Tells site s (Take seat c p)) (not (is_seat seat)) _ _
      (λ e. same (Take seat c p) _ refl)
      (λ e. on_option (Tells site s (Take seat c p)) (λ g. (SeatBusy g, s)) (owned_by s seat) _
      (λ n. on_option (Tells site s (Take seat c p)) _ (slice_get s.channels c) _
      (λ m. same (Take seat c p) _ refl)
      (λ ch here. on_option (Tells site s (Take seat c p)) (λ x. take_entry site seat c p ch x s) (slice_get ch.received p) _
      (λ m. same (Take seat c p) _ refl)
      (λ x there. on_test (Tells site s (Take seat c p)) ch.stopped _ _
      (λ m. same (Take seat c p) _ refl)
      (λ m. on_test (Tells site s (Take seat c p)) (set.contains s.executed x.gtid) _ _
      (λ done. same (Take seat c p) _ refl)
      (λ new. on_option (Tells site s (Take seat c p)) (λ other. (OwnedBy other, s)) (owner s x.gtid) _
      (λ unowned. on_option (Tells site s (Take seat c p)) (λ q. (Blocked q, s)) (option_map_or (blocking site.schema s ch p) x.txn None) _
      (λ unblocked. record { came = λ y w. was s _ _ _ y refl w; made = inl (quiet s _ refl refl refl) })
      (λ q m. same (Take seat c p) _ refl))
      (λ other m. same (Take seat c p) _ refl))))))
      (λ g n. same (Take seat c p) _ refl))

  rollback_tells : (seat : ℕ) → Tells site s (Rollback seat) (rollback seat s)
  rollback_tells seat =
      on_test (Tells site s (Rollback seat)) (not (is_seat seat)) _ _
      (λ e. same (Rollback seat) _ refl)
      (λ e. on_option (Tells site s (Rollback seat)) (λ h. (RolledBack h.gtid, without_seat s seat)) (held s seat) _
      (λ n. same (Rollback seat) _ refl)
      (λ h n. record { came = λ x w. was s _ _ _ x refl w; made = inl (quiet s _ refl refl refl) }))

  -- what a seat holds waits
  held_waits : (seat : ℕ) (h : Held) → held s seat ≡ Some h → Waits s.channels (record { gtid = h.gtid; txn = h.txn })
  held_waits seat h e =
      let a = and_then_some (held_at s) (finmap.get s.seats seat) h e in
      let b = and_then_some (λ (ch : ChannelValue). option_and_then (held_of a.0 ch) (slice_get ch.received a.0.place)) (slice_get s.channels a.0.channel) h a.2 in
      let c = and_then_some (held_of a.0 b.0) (slice_get b.0.received a.0.place) h b.2 in
      let d = map_some (λ (t : Transaction). record { spot = a.0; channel = b.0; gtid = c.0.gtid; txn = t }) c.0.txn h c.2 in
      let P : Held → Type 0 = λ x. Waits s.channels (record { gtid = x.gtid; txn = x.txn }) in
      subst P d.2 (a.0.channel, b.0, b.1, (a.0.place, c.0, c.1, refl, d.1))

  -- what waits once a transaction is executed
  settled : (g : Gtid) (s' : State) (event : Event) (r : Reply) (x : Entry) → s'.executed ≡ set.insert s.executed g → Waits s.channels x × (set.contains (set.insert s.executed g) x.gtid ≡ set.contains s.executed x.gtid) → Came s s' event r x
  settled g s' event r x more w = record { from = inl w.0; executed = ap (λ (y : Gtids). set.contains y x.gtid) more ∙ w.1 }

  left_waiting : (g : Gtid) (x : Entry) → Waits (map (settle_channel g) s.channels) x → Waits s.channels x × (set.contains (set.insert s.executed g) x.gtid ≡ set.contains s.executed x.gtid)
  left_waiting g x w =
      let v = waits_settled s.channels g x w in
      (v.0, in_insert s.executed g x.gtid ∙ ap (λ b. b || set.contains s.executed x.gtid) v.1)

  stopped_waits : (c : ℕ) (x : Entry) → Waits (set_stopped_at true c s.channels) x → Waits s.channels x
  stopped_waits c x =
      on_option (λ xs. Waits xs x → Waits s.channels x) (λ channel. slice_set s.channels c (record channel { stopped = true })) (slice_get s.channels c) s.channels
      (λ e w. w)
      (λ ch e w. waits_set_same s.channels c ch (record ch { stopped = true }) x e refl w)

  answer_tells : (seat : ℕ) (h : Held) → held s seat ≡ Some h → (r : Result Rows RowFault) → apply site.schema h.txn s.rows ≡ r → Tells site s (Commit seat) (commit_answer h.gtid h.txn seat h.spot.channel s r)
  answer_tells seat h is (Ok rows) e = record {
    came = λ x w. settled h.gtid _ _ _ x refl (left_waiting h.gtid x w);
    made = inr (record {
      entry = record { gtid = h.gtid; txn = h.txn };
      one = ap (held_entry h.gtid) is;
      applies = e;
      executed = refl;
      journal = refl;
      origin = inl (held_waits seat h is);
    });
  }
  answer_tells seat h is (Err fault) e = record { came = λ x w. was s _ _ _ x refl (stopped_waits h.spot.channel x w); made = inl (quiet s _ refl refl refl) }

  commit_tells : (seat : ℕ) → Tells site s (Commit seat) (commit site seat s)
  commit_tells seat =
      on_test (Tells site s (Commit seat)) (not (is_seat seat)) _ _
      (λ e. same (Commit seat) _ refl)
      (λ e. on_option (Tells site s (Commit seat)) (commit_held site seat s) (held s seat) _
      (λ n. same (Commit seat) _ refl)
      (λ h is. on_option (Tells site s (Commit seat)) (λ q. (Early q, s)) (cond h.channel.preserve (open_before s h.channel h.spot.place) None) _
      (λ n. answer_tells seat h is (apply site.schema h.txn s.rows) refl)
      (λ q n. same (Commit seat) _ refl)))

  local_by : (g : Gtid) (t : Transaction) → set.contains s.executed g ≡ false → (r : Result Rows RowFault) → apply site.schema t s.rows ≡ r → Tells site s (Local t) (local_answer g t s r)
  local_by g t new (Ok rows) e = record {
    came = λ x w. settled g _ _ _ x refl (left_waiting g x w);
    made = inr (record {
      entry = record { gtid = g; txn = t };
      one = refl;
      applies = e;
      executed = refl;
      journal = refl;
      origin = inr (inl refl, new);
    });
  }
  local_by g t new (Err fault) e = same (Local t) _ refl

  local_tells : (t : Transaction) → Tells site s (Local t) (local site t s)
  local_tells t =
      on_option (Tells site s (Local t)) (λ fault. (NotInSchema fault, s)) (misfit site.schema t) _
      (λ e. on_option (Tells site s (Local t)) _ (next_number site s) _
      (λ n. same (Local t) _ refl)
      (λ n is. local_by (gtid site.own n) t (free_number site s n is).0 (apply site.schema t s.rows) refl))
      (λ fault e. same (Local t) _ refl)

  purge_tells : (k : ℕ) → Tells site s (Purge k) (purge k s)
  purge_tells k =
      on_test (Tells site s (Purge k)) (nat_lt (length s.journal.entries) k) _ _
      (λ e. same (Purge k) _ refl)
      (λ e. record {
        came = λ x w. was s _ _ _ x refl w;
        made = inl (record { none = refl; rows = refl; executed = refl; purged = take k s.journal.entries; journal = take-append-drop k s.journal.entries });
      })

  pub step_tells : (e : Event) → Tells site s e (step site s e)
  step_tells (OpenChannel name preserve) = open_tells name preserve
  step_tells (Position c) = position_tells c
  step_tells (Receive c entry) = receive_tells c entry
  step_tells (Take seat c p) = take_tells seat c p
  step_tells (Commit seat) = commit_tells seat
  step_tells (Rollback seat) = rollback_tells seat
  step_tells (Restart c) = restart_tells c
  step_tells (Local t) = local_tells t
  step_tells (Purge k) = purge_tells k
  step_tells Look = same Look _ refl
