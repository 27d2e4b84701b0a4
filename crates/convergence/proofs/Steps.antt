-- Every event of a faithful run keeps the invariant and refuses no row.
use Rattle.std.proofs.Common.{◌≡◌, ℕ, Bool, true, false, cond, not, ◌&&◌, inl, inr, List, [], ◌∷◌, ◌++◌, length, take, drop, Option, Some, None, Result, Ok, Err, refl, sym, ap, ◌∙◌, subst}
use Rattle.std.specs.Prelude.{slice_get, slice_set, nat_le, nat_lt, IsSome, is_none}
use Rattle.std.specs.Option.{option_map_or, option_and_then}
use Rattle.std.specs.List.{list_any, range_with_len}
use Rattle.std.specs.FinMap as finmap
use Rattle.std.specs.FinSet as set
use Rattle.std.proofs.lemmas.Bool.{ltb-false, cases_Bool, and_parts, not-true, not-false}
use Rattle.std.proofs.lemmas.List.{take-append-drop}
use Rattle.rows.specs.declared.change.Transaction.{Transaction}
use Rattle.rows.specs.declared.change.RowFault.{RowFault}
use Rattle.rows.specs.Fits.{misfit}
use Rattle.rows.specs.Apply.{Rows, apply}
use Rattle.rows.specs.Conflicts.{conflicts}
use Rattle.gtid_text.specs.declared.Gtid.{Gtid}
use Rattle.gtid_set.specs.Sets.{Gtids, gtid, greatest, least_number}
use Rattle.journal.specs.declared.Entry.{Entry}
use Rattle.apply_channel.specs.Channels.{ChannelValue, Received, same_name, is_full}
use Rattle.replica_core.specs.declared.event.Event.{Event}
use Rattle.replica_core.specs.declared.event.Event.TheVariants.{OpenChannel, Position, Receive, Take, Commit, Rollback, Restart, Local, Purge, Look}
use Rattle.replica_core.specs.declared.event.Reply.TheVariants.{NotInSchema, Ask, SeatBusy, OwnedBy, Blocked, Early, RolledBack, Restarted}
use Rattle.replica_core.specs.State.{State, Site, owned_by, owner}
use Rattle.replica_core.specs.Machine.{is_seat, ask, is_in_the_way, blocking, open_before, with_channel, without_seat, stopping, execute, open_channel, position_on, receive, take_entry, take_place, Held, held_of, held_at, held, commit_answer, commit_held, commit, rollback, restart, is_free, next_number, local_answer, local, purge, step}
use Rattle.history.specs.World.{OrderedWorld, content, Precedes, AreGtidsSound}
use Rattle.convergence.specs.Faithful.{Since, asked_with}
use Rattle.convergence.proofs.Invariant.{AllApply, Needs, IsReady, Invariant, Keeps}
use Rattle.history.proofs.Covering.{covered}
use Rattle.history.proofs.Keeping.{covered_purged, journal_purge}
use Rattle.convergence.proofs.Sending.{served}
use Rattle.convergence.proofs.Receiving.{received_entry, put_set, put_push, from_parts, extends_push, good_received, good_asked, good_restarted, good_stopped, good_new, all_set, all_set_same, all_push}
use Rattle.convergence.proofs.Seats.{seats_over, seats_without, seats_with, free_without, free_from}
use Rattle.convergence.proofs.Executing.{must_apply, executing_keeps}
use Rattle.std.proofs.lemmas.Option.{same_Some}
use Rattle.lemmas.proofs.Options.{none_some, none_if, map_some, and_then_some, on_option}
use Rattle.lemmas.proofs.Tests.{on_test, not_both}
use Rattle.lemmas.proofs.Lists.{found_passes, position_none, get_take}

-- the number of a local commit is neither executed nor owned
pub free_number : (site : Site) (s : State) (n : ℕ) → next_number site s ≡ Some n → (set.contains s.executed (gtid site.own n) ≡ false) × (owner s (gtid site.own n) ≡ None)
unfolding least_number
free_number site s n is =
    let test = and_parts (not (set.contains s.executed (gtid site.own n))) (is_none (owner s (gtid site.own n))) (found_passes (is_free site s) (range_with_len 1 greatest) n is) in
    (not-true (set.contains s.executed (gtid site.own n)) test.0, none_if (owner s (gtid site.own n)) test.1)

module _ (world : OrderedWorld) (own : ℕ) (sound : AreGtidsSound world) (s : State) (since : Since) (inv : Invariant world s since) where
  abbrev site : Site
  site = record { own = own; schema = world.schema }

  open_keeps : (name : List ℕ) (preserve : Bool) → Keeps world site s since (OpenChannel name preserve) (open_channel name preserve s)
  open_keeps name preserve =
      on_test (Keeps world site s since (OpenChannel name preserve)) (list_any (λ (c : ChannelValue). same_name c.name name) s.channels) _ _
      (λ e. record { keeps = λ f. (inv, λ a. tt) })
      (λ e. on_test (Keeps world site s since (OpenChannel name preserve)) (nat_le 256 (length s.channels)) _ _
      (λ g. record { keeps = λ f. (inv, λ a. tt) })
      (λ g. record {
        keeps = λ f. (
          record {
            closed = inv.closed;
            rows = inv.rows;
            channels = all_push world (set.contains s.executed) since s.channels _ inv.channels (good_new world (set.contains s.executed) name preserve);
            seats = seats_over world (set.contains s.executed) s.channels _ s.seats (put_push s.channels _) inv.seats;
            journal = inv.journal;
            recorded = inv.recorded;
          },
          λ a. tt,
        );
      }))

  position_keeps : (c : ℕ) → Keeps world site s since (Position c) (position_on c s)
  position_keeps c =
      on_option (Keeps world site s since (Position c)) (λ channel. (Ask (ask s channel), with_channel s c (record channel { asked = Some (ask s channel) }))) (slice_get s.channels c) _
      (λ e. record { keeps = λ f. (inv, λ a. tt) })
      (λ ch e. record {
        keeps = λ f. (
          record {
            closed = inv.closed;
            rows = inv.rows;
            channels = all_set world (set.contains s.executed) since s.channels c (record ch { asked = Some (ask s ch) }) [] inv.channels (good_asked world s (since c) ch (inv.channels c ch e));
            seats = seats_over world (set.contains s.executed) s.channels _ s.seats (put_set s.channels c ch (record ch { asked = Some (ask s ch) }) e (λ p x i. (x, i, refl))) inv.seats;
            journal = inv.journal;
            recorded = inv.recorded;
          },
          λ a. tt,
        );
      })

  restart_keeps : (c : ℕ) → Keeps world site s since (Restart c) (restart c s)
  restart_keeps c =
      on_option (Keeps world site s since (Restart c)) (λ channel. (Restarted, with_channel s c (record channel { stopped = false }))) (slice_get s.channels c) _
      (λ e. record { keeps = λ f. (inv, λ a. tt) })
      (λ ch e. record {
        keeps = λ f. (
          record {
            closed = inv.closed;
            rows = inv.rows;
            channels = all_set_same world (set.contains s.executed) since s.channels c (record ch { stopped = false }) inv.channels (good_restarted world (set.contains s.executed) (since c) ch (inv.channels c ch e));
            seats = seats_over world (set.contains s.executed) s.channels _ s.seats (put_set s.channels c ch (record ch { stopped = false }) e (λ p x i. (x, i, refl))) inv.seats;
            journal = inv.journal;
            recorded = inv.recorded;
          },
          λ a. tt,
        );
      })

  asked_there : (c : ℕ) (ch : ChannelValue) (A : Gtids) → slice_get s.channels c ≡ Some ch → ch.asked ≡ Some A → asked_with s c ≡ Some A
  asked_there c ch A e a = ap (option_and_then (λ (x : ChannelValue). x.asked)) e ∙ a

  receive_keeps : (c : ℕ) (entry : Entry) → Keeps world site s since (Receive c entry) (receive site c entry s)
  receive_keeps c entry =
      on_option (Keeps world site s since (Receive c entry)) _ (slice_get s.channels c) _
      (λ e. record { keeps = λ f. (inv, λ a. tt) })
      (λ ch e. on_option (Keeps world site s since (Receive c entry)) _ ch.asked _
      (λ n. record { keeps = λ f. (inv, λ a. tt) })
      (λ A a. on_option (Keeps world site s since (Receive c entry)) (λ fault. (NotInSchema fault, s)) (misfit world.schema entry.txn) _
      (λ n. on_test (Keeps world site s since (Receive c entry)) (is_full ch) _ _
      (λ m. record { keeps = λ f. (inv, λ a. tt) })
      (λ m. record {
        keeps = λ f. (
          record {
            closed = inv.closed;
            rows = inv.rows;
            channels = all_set world (set.contains s.executed) since s.channels c _ (since c ++ entry ∷ []) inv.channels
                (good_received world s (since c) ch A entry inv.closed.opened a (served world sound A (since c) entry (f A (asked_there c ch A e a))) (inv.channels c ch e));
            seats = seats_over world (set.contains s.executed) s.channels _ s.seats (put_set s.channels c ch (record ch { received = ch.received ++ received_entry s entry ∷ [] }) e (extends_push ch (received_entry s entry) (record ch { received = ch.received ++ received_entry s entry ∷ [] }) refl)) inv.seats;
            journal = inv.journal;
            recorded = inv.recorded;
          },
          λ a. tt,
        );
      }))
      (λ fault n. record { keeps = λ f. (inv, λ a. tt) })))

  rollback_keeps : (seat : ℕ) → Keeps world site s since (Rollback seat) (rollback seat s)
  rollback_keeps seat =
      on_test (Keeps world site s since (Rollback seat)) (not (is_seat seat)) _ _
      (λ e. record { keeps = λ f. (inv, λ a. tt) })
      (λ e. on_option (Keeps world site s since (Rollback seat)) (λ h. (RolledBack h.gtid, without_seat s seat)) (held s seat) _
      (λ n. record { keeps = λ f. (inv, λ a. tt) })
      (λ h n. record {
        keeps = λ f. (
          record {
            closed = inv.closed;
            rows = inv.rows;
            channels = inv.channels;
            seats = seats_without world (set.contains s.executed) s.channels s.seats seat inv.seats;
            journal = inv.journal;
            recorded = inv.recorded;
          },
          λ a. tt,
        );
      }))

  purge_keeps : (k : ℕ) → Keeps world site s since (Purge k) (purge k s)
  purge_keeps k =
      on_test (Keeps world site s since (Purge k)) (nat_lt (length s.journal.entries) k) _ _
      (λ e. record { keeps = λ f. (inv, λ a. tt) })
      (λ e. record {
        keeps = λ f. (
          record {
            closed = inv.closed;
            rows = inv.rows;
            channels = inv.channels;
            seats = inv.seats;
            journal = journal_purge world s.journal k (ltb-false (length s.journal.entries) k e) inv.journal;
            recorded = λ h. covered_purged s.journal.previous (take k s.journal.entries) (drop k s.journal.entries) h
                ∙ (ap (λ es. covered s.journal.previous es h) (take-append-drop k s.journal.entries) ∙ inv.recorded h);
          },
          λ a. tt,
        );
      })

  -- an entry whose way is free may be committed
  in_way_by : (f : Received) (t u : Transaction) → f.txn ≡ Some u → conflicts world.schema u t ≡ true → set.contains s.executed f.gtid ≡ false → is_in_the_way world.schema s t f ≡ true
  in_way_by f t u has shares new =
      ap (λ b. not b && option_map_or (λ x. conflicts world.schema x t) f.txn false) new
      ∙ (ap (λ o. option_map_or (λ x. conflicts world.schema x t) o false) has ∙ shares)

  one_content : (g : Gtid) (t u : Transaction) → content world g ≡ Some t → content world g ≡ Some u → t ≡ u
  one_content g t u f k = same_Some t u (sym f ∙ k)

  ready_at : (c p : ℕ) (ch : ChannelValue) (e : Received) → slice_get s.channels c ≡ Some ch → slice_get ch.received p ≡ Some e → set.contains s.executed e.gtid ≡ false → option_map_or (blocking world.schema s ch p) e.txn None ≡ None → IsReady world (set.contains s.executed) s.channels (record { channel = c; place = p })
  ready_at c p ch e here there new unblocked =
      let good = inv.channels c ch here in
      let own_txn = good.known p e there new in
      let no_block : blocking world.schema s ch p own_txn.0 ≡ None = sym (ap (λ o. option_map_or (blocking world.schema s ch p) o None) own_txn.1) ∙ unblocked in
      record {
        gtid = e.gtid;
        there = from_parts s.channels (record { channel = c; place = p }) ch e here there;
        new = new;
        needs = λ h n. elim (good.needed p e h there n) [
          | inl done ↦ done
          | inr before ↦
              let f = before.1 in
              elim (cases_Bool (set.contains s.executed f.gtid)) [
                | inl done ↦ ap (set.contains s.executed) (sym before.3) ∙ done
                | inr waits ↦
                    let its = good.known before.0 f before.2 waits in
                    let is_t : its.0 ≡ n.t = one_content h its.0 n.t (ap (content world) (sym before.3) ∙ its.2) n.content_h in
                    let is_u : n.u ≡ own_txn.0 = one_content e.gtid n.u own_txn.0 n.content_g own_txn.2 in
                    let shares : conflicts world.schema its.0 own_txn.0 ≡ true = ap (λ x. conflicts world.schema x own_txn.0) is_t ∙ (ap (conflicts world.schema n.t) (sym is_u) ∙ n.shares) in
                    not_both (is_in_the_way world.schema s own_txn.0 f) (in_way_by f own_txn.0 its.0 its.1 shares waits)
                    (position_none (is_in_the_way world.schema s own_txn.0) (take p ch.received) no_block before.0 f (get_take ch.received p before.0 f before.2 before.4))
              ]
        ];
      }

  take_keeps : (seat c p : ℕ) → Keeps world site s since (Take seat c p) (take_place site seat c p s)
  unfolding ready_at
  take_keeps seat c p =
      on_test (Keeps world site s since (Take seat c p)) (not (is_seat seat)) _ _
      (λ e. record { keeps = λ f. (inv, λ a. tt) })
      (λ in_range. on_option (Keeps world site s since (Take seat c p)) (λ g. (SeatBusy g, s)) (owned_by s seat) _
      (λ n. on_option (Keeps world site s since (Take seat c p)) _ (slice_get s.channels c) _
      (λ m. record { keeps = λ f. (inv, λ a. tt) })
      (λ ch here. on_option (Keeps world site s since (Take seat c p)) (λ x. take_entry site seat c p ch x s) (slice_get ch.received p) _
      (λ m. record { keeps = λ f. (inv, λ a. tt) })
      (λ x there. on_test (Keeps world site s since (Take seat c p)) ch.stopped _ _
      (λ m. record { keeps = λ f. (inv, λ a. tt) })
      (λ m. on_test (Keeps world site s since (Take seat c p)) (set.contains s.executed x.gtid) _ _
      (λ done. record { keeps = λ f. (inv, λ a. tt) })
      (λ new. on_option (Keeps world site s since (Take seat c p)) (λ other. (OwnedBy other, s)) (owner s x.gtid) _
      (λ unowned. on_option (Keeps world site s since (Take seat c p)) (λ q. (Blocked q, s)) (option_map_or (blocking world.schema s ch p) x.txn None) _
      (λ unblocked. record {
        keeps = λ f. (
          record {
            closed = inv.closed;
            rows = inv.rows;
            channels = inv.channels;
            seats = seats_with world (set.contains s.executed) s.channels s.seats seat (record { channel = c; place = p }) (ready_at c p ch x here there new unblocked) (not-false (is_seat seat) in_range) (free_from world (set.contains s.executed) s x.gtid inv.seats unowned) inv.seats;
            journal = inv.journal;
            recorded = inv.recorded;
          },
          λ a. tt,
        );
      })
      (λ q m. record { keeps = λ f. (inv, λ a. tt) }))
      (λ other m. record { keeps = λ f. (inv, λ a. tt) }))))))
      (λ g n. record { keeps = λ f. (inv, λ a. tt) }))

  -- what a seat holds
  record HeldParts (seat : ℕ) (h : Held) : Type 0 where
    spot : finmap.get s.seats seat ≡ Some h.spot
    channel : slice_get s.channels h.spot.channel ≡ Some h.channel
    entry : Received
    there : slice_get h.channel.received h.spot.place ≡ Some entry
    gtid : entry.gtid ≡ h.gtid
    txn : entry.txn ≡ Some h.txn

  held_parts : (seat : ℕ) (h : Held) → held s seat ≡ Some h → HeldParts seat h
  held_parts seat h e =
      let a = and_then_some (held_at s) (finmap.get s.seats seat) h e in
      let b = and_then_some (λ (ch : ChannelValue). option_and_then (held_of a.0 ch) (slice_get ch.received a.0.place)) (slice_get s.channels a.0.channel) h a.2 in
      let c = and_then_some (held_of a.0 b.0) (slice_get b.0.received a.0.place) h b.2 in
      let d = map_some (λ (t : Transaction). record { spot = a.0; channel = b.0; gtid = c.0.gtid; txn = t }) c.0.txn h c.2 in
      let P : Held → Type 0 = HeldParts seat in
      subst P d.2 (record { spot = a.1; channel = b.1; entry = c.0; there = c.1; gtid = refl; txn = d.1 })

  not_refused : (r : Result Rows RowFault) (rows : Rows) (fault : RowFault) → r ≡ Ok rows → r ≡ Err fault → ⊥
  not_refused r rows fault e f = cc

  stopped_keeps : (seat c : ℕ) (ch : ChannelValue) → slice_get s.channels c ≡ Some ch → (AllApply world → ⊥) → Invariant world (stopping c (without_seat s seat)) since
  stopped_keeps seat c ch here not_all =
      on_option (λ xs. Invariant world (record { executed = s.executed; rows = s.rows; seats = finmap.remove s.seats seat; channels = xs; journal = s.journal }) since) (λ channel. slice_set s.channels c (record channel { stopped = true })) (slice_get s.channels c) s.channels
      (λ e. absurd (none_some ch (sym e ∙ here)))
      (λ x e. record {
        closed = inv.closed;
        rows = inv.rows;
        channels = all_set_same world (set.contains s.executed) since s.channels c (record x { stopped = true }) inv.channels (good_stopped world (set.contains s.executed) (since c) x not_all (inv.channels c x e));
        seats = seats_over world (set.contains s.executed) s.channels _ (finmap.remove s.seats seat) (put_set s.channels c x (record x { stopped = true }) e (λ p y i. (y, i, refl))) (seats_without world (set.contains s.executed) s.channels s.seats seat inv.seats);
        journal = inv.journal;
        recorded = inv.recorded;
      })

  committed_by : (seat : ℕ) (h : Held) (r : Result Rows RowFault) → apply world.schema h.txn s.rows ≡ r → (AllApply world → (rows : Rows) × (apply world.schema h.txn s.rows ≡ Ok rows)) → slice_get s.channels h.spot.channel ≡ Some h.channel
      → ((rows : Rows) → apply world.schema h.txn s.rows ≡ Ok rows → Invariant world (execute (without_seat s seat) h.gtid h.txn rows) since) → Keeps world site s since (Commit seat) (commit_answer h.gtid h.txn seat h.spot.channel s r)
  committed_by seat h (Ok rows) e must here done = record { keeps = λ f. (done rows e, λ a. tt) }
  committed_by seat h (Err fault) e must here done =
      let not_all : AllApply world → ⊥ = λ a. let m = must a in not_refused (apply world.schema h.txn s.rows) m.0 fault m.1 e in
      record { keeps = λ f. (stopped_keeps seat h.spot.channel h.channel here not_all, λ a. absurd (not_all a)) }

  committed : (seat : ℕ) (h : Held) → held s seat ≡ Some h → Keeps world site s since (Commit seat) (commit_answer h.gtid h.txn seat h.spot.channel s (apply world.schema h.txn s.rows))
  committed seat h is =
      let q = held_parts seat h is in
      let r = inv.seats.ready seat h.spot q.spot in
      let at = from_parts s.channels h.spot h.channel q.entry q.channel q.there in
      let is_g : r.gtid ≡ h.gtid = same_Some r.gtid q.entry.gtid (sym r.there ∙ at) ∙ q.gtid in
      let new : set.contains s.executed h.gtid ≡ false = ap (set.contains s.executed) (sym is_g) ∙ r.new in
      let its = (inv.channels h.spot.channel h.channel q.channel).known h.spot.place q.entry q.there (ap (set.contains s.executed) q.gtid ∙ new) in
      let is_t : its.0 ≡ h.txn = same_Some its.0 h.txn (sym its.1 ∙ q.txn) in
      let there : content world h.gtid ≡ Some h.txn = ap (content world) (sym q.gtid) ∙ (its.2 ∙ ap Some is_t) in
      let needs : (x : Gtid) → Needs world x h.gtid → set.contains s.executed x ≡ true = λ x n. r.needs x (subst (Needs world x) (sym is_g) n) in
      committed_by seat h (apply world.schema h.txn s.rows) refl (λ a. must_apply world s since h.gtid h.txn sound a inv there new needs)
      q.channel
      (λ rows applied. executing_keeps world s since (finmap.remove s.seats seat) h.gtid h.txn sound inv
      (seats_without world (set.contains s.executed) s.channels s.seats seat inv.seats)
      (free_without world (set.contains s.executed) s.channels s.seats seat h.spot h.gtid inv.seats q.spot (at ∙ ap Some q.gtid)) there new needs rows applied)

  commit_keeps : (seat : ℕ) → Keeps world site s since (Commit seat) (commit site seat s)
  commit_keeps seat =
      on_test (Keeps world site s since (Commit seat)) (not (is_seat seat)) _ _
      (λ e. record { keeps = λ f. (inv, λ a. tt) })
      (λ e. on_option (Keeps world site s since (Commit seat)) (commit_held site seat s) (held s seat) _
      (λ n. record { keeps = λ f. (inv, λ a. tt) })
      (λ h is. on_option (Keeps world site s since (Commit seat)) (λ q. (Early q, s)) (cond h.channel.preserve (open_before s h.channel h.spot.place) None) _
      (λ n. committed seat h is)
      (λ q n. record { keeps = λ f. (inv, λ a. tt) })))

  some_there : {A : Type 0} (o : Option A) (x : A) → o ≡ Some x → IsSome o
  some_there (Some y) x e = refl
  some_there None x e = cc

  local_by : (g : Gtid) (t : Transaction) → g.source ≡ own → set.contains s.executed g ≡ false → owner s g ≡ None → (r : Result Rows RowFault) → apply world.schema t s.rows ≡ r → Keeps world site s since (Local t) (local_answer g t s r)
  local_by g t mine new unowned (Err fault) e = record { keeps = λ f. (inv, λ a. tt) }
  local_by g t mine new unowned (Ok rows) e = record {
    keeps = λ f. (
      executing_keeps world s since s.seats g t sound inv inv.seats (free_from world (set.contains s.executed) s g inv.seats unowned) f.0 new
          (λ h n.
          let is_t : n.u ≡ t = one_content g n.u t n.content_g f.0 in
          f.1 h n.t (subst (λ (x : Transaction). Precedes world.order (h, n.t) (g, x)) is_t n.before) (ap (conflicts world.schema n.t) (sym is_t) ∙ n.shares))
          rows e,
      λ a. tt,
    );
  }

  local_keeps : (t : Transaction) → Keeps world site s since (Local t) (local site t s)
  local_keeps t =
      on_option (Keeps world site s since (Local t)) (λ fault. (NotInSchema fault, s)) (misfit world.schema t) _
      (λ e. on_option (Keeps world site s since (Local t)) _ (next_number site s) _
      (λ n. record { keeps = λ f. (inv, λ a. tt) })
      (λ n is.
      let free = free_number site s n is in
      local_by (gtid own n) t refl free.0 free.1 (apply world.schema t s.rows) refl))
      (λ fault e. record { keeps = λ f. (inv, λ a. tt) })

  pub step_keeps : (e : Event) → Keeps world site s since e (step site s e)
  step_keeps (OpenChannel name preserve) = open_keeps name preserve
  step_keeps (Position c) = position_keeps c
  step_keeps (Receive c entry) = receive_keeps c entry
  step_keeps (Take seat c p) = take_keeps seat c p
  step_keeps (Commit seat) = commit_keeps seat
  step_keeps (Rollback seat) = rollback_keeps seat
  step_keeps (Restart c) = restart_keeps c
  step_keeps (Local t) = local_keeps t
  step_keeps (Purge k) = purge_keeps k
  step_keeps Look = record { keeps = λ f. (inv, λ a. tt) }
