-- How one event of a replica changes its own journal, and what its channels have asked with and received.
use Rattle.std.proofs.Common.{◌≡◌, ℕ, Bool, true, false, cond, not, ◌⊎◌, inl, inr, List, [], ◌∷◌, ◌++◌, map, length, Some, None, Result, Ok, Err, refl, sym, ap, ◌∙◌, subst}
use Rattle.std.specs.Prelude.{slice_get, slice_set, nat_le, nat_lt}
use Rattle.std.specs.Option.{option_map_or}
use Rattle.std.specs.List.{list_any}
use Rattle.std.specs.FinSet as set
use Rattle.lemmas.proofs.Options.{none_some, on_option}
use Rattle.lemmas.proofs.Lists.{get_push_cases, get_set_cases, get_map, get_map_cases}
use Rattle.lemmas.proofs.Tests.{on_test}
use Rattle.gtid_text.specs.declared.Gtid.{Gtid}
use Rattle.gtid_set.specs.Sets.{Gtids, gtid}
use Rattle.rows.specs.declared.change.Transaction.{Transaction}
use Rattle.rows.specs.declared.change.RowFault.{RowFault}
use Rattle.rows.specs.Fits.{misfit}
use Rattle.rows.specs.Apply.{Rows, apply}
use Rattle.journal.specs.declared.Entry.{Entry}
use Rattle.relay.specs.Own.{with_last, purge_to}
use Rattle.apply_channel.specs.Channels.{ChannelValue, Received, settle, settle_channel, same_name, is_full}
use Rattle.replica_core.specs.declared.event.Event.{Event}
use Rattle.replica_core.specs.declared.event.Event.TheVariants.{OpenChannel, Position, Receive, Take, Commit, Rollback, Restart, Local, Purge, Look}
use Rattle.replica_core.specs.declared.event.Reply.TheVariants.{NotInSchema, Ask, SeatBusy, OwnedBy, Blocked, Early, RolledBack, Restarted}
use Rattle.replica_core.specs.State.{State, Site, owned_by, owner}
use Rattle.replica_core.specs.Machine.{Step, is_seat, ask, blocking, open_before, with_channel, without_seat, set_stopped_at, open_channel, position_on, receive, take_entry, take_place, held, commit_answer, commit_held, commit, rollback, restart, next_number, local_answer, local, purge, step}
use Rattle.convergence.proofs.Invariant.{Stands}
use Rattle.convergence.proofs.Receiving.{settle_gtid}
use Rattle.network.specs.Machine.{is_for_network}

-- ---- the own journal

pub record Stays (old new : State) : Type 0 where
  pub journal : new.journal ≡ old.journal
  pub executed : new.executed ≡ old.executed

pub record Appends (old new : State) : Type 0 where
  pub entry : Entry
  pub journal : new.journal ≡ with_last entry old.journal
  pub executed : new.executed ≡ set.insert old.executed entry.gtid

pub record Purges (old new : State) : Type 0 where
  pub count : ℕ
  pub journal : new.journal ≡ purge_to count old.journal
  pub executed : new.executed ≡ old.executed

abbrev pub Journals : State → State → Type 0
Journals old new = Stays old new ⊎ Appends old new ⊎ Purges old new

-- ---- the channels

-- a channel that has asked, was there before, had asked so, and has received what it had
pub record Was (old : List ChannelValue) (c : ℕ) (ch : ChannelValue) (A : Gtids) : Type 0 where
  pub channel : ChannelValue
  pub there : slice_get old c ≡ Some channel
  pub asked : channel.asked ≡ Some A
  pub received : (g : Gtid) → Stands g ch.received → Stands g channel.received
  pub kept : (g : Gtid) → Stands g channel.received → Stands g ch.received

abbrev pub AreAsBefore : List ChannelValue → List ChannelValue → Type 0
AreAsBefore old new = (c : ℕ) (ch : ChannelValue) (A : Gtids) → slice_get new c ≡ Some ch → ch.asked ≡ Some A → Was old c ch A

pub same_channels : (channels : List ChannelValue) → AreAsBefore channels channels
same_channels channels c ch A e a = record { channel = ch; there = e; asked = a; received = λ g w. w; kept = λ g w. w }

pub before_push : (channels : List ChannelValue) (new : ChannelValue) → new.asked ≡ None → AreAsBefore channels (channels ++ new ∷ [])
before_push channels new none c ch A e a =
    elim (get_push_cases channels new c ch e) [
      | inl old ↦ record { channel = ch; there = old; asked = a; received = λ g w. w; kept = λ g w. w }
      | inr last ↦ none_some A (sym none ∙ (ap (λ (x : ChannelValue). x.asked) last.1 ∙ a))
    ]

pub before_set : (channels : List ChannelValue) (c : ℕ) (old new : ChannelValue) → slice_get channels c ≡ Some old → new.asked ≡ old.asked → new.received ≡ old.received → AreAsBefore channels (slice_set channels c new)
before_set channels c old new here asked received d ch A e a =
    elim (get_set_cases channels c new d ch e) [
      | inl at ↦ record {
        channel = old;
        there = ap (slice_get channels) at.0 ∙ here;
        asked = sym asked ∙ (ap (λ (x : ChannelValue). x.asked) at.1 ∙ a);
        received = λ g w. subst (Stands g) received (subst (λ (x : ChannelValue). Stands g x.received) (sym at.1) w);
        kept = λ g w. subst (λ (x : ChannelValue). Stands g x.received) at.1 (subst (Stands g) (sym received) w);
      }
      | inr other ↦ record { channel = ch; there = other.1; asked = a; received = λ g w. w; kept = λ g w. w }
    ]

stood : (h : Gtid) (rs : List Received) (g : Gtid) → Stands g (map (settle h) rs) → Stands g rs
stood h rs g w =
    let q = get_map_cases (settle h) rs w.0 w.1 w.2 in
    (w.0, q.0, q.1, sym (settle_gtid h q.0) ∙ (ap (λ (x : Received). x.gtid) q.2 ∙ w.3))

stays : (h : Gtid) (rs : List Received) (g : Gtid) → Stands g rs → Stands g (map (settle h) rs)
stays h rs g w = (w.0, settle h w.1, get_map (settle h) rs w.0 w.1 w.2, settle_gtid h w.1 ∙ w.3)

pub before_settled : (channels : List ChannelValue) (h : Gtid) → AreAsBefore channels (map (settle_channel h) channels)
before_settled channels h c ch A e a =
    let r = get_map_cases (settle_channel h) channels c ch e in
    record {
      channel = r.0;
      there = r.1;
      asked = ap (λ (x : ChannelValue). x.asked) r.2 ∙ a;
      received = λ g w. stood h r.0.received g (subst (λ (x : ChannelValue). Stands g x.received) (sym r.2) w);
      kept = λ g w. subst (λ (x : ChannelValue). Stands g x.received) r.2 (stays h r.0.received g w);
    }

-- ---- one event

pub record Moves (s : State) (event : Event) (after : Step) : Type 0 where
  pub journals : Journals s after.1
  pub channels : is_for_network event ≡ false → AreAsBefore s.channels after.1.channels

abbrev pub still : (s : State) → Journals s s
still s = inl (record { journal = refl; executed = refl })

never : {A : Type 0} → true ≡ false → A
never e = cc

module _ (site : Site) (s : State) where
  open_moves : (name : List ℕ) (preserve : Bool) → Moves s (OpenChannel name preserve) (open_channel name preserve s)
  open_moves name preserve =
      on_test (Moves s (OpenChannel name preserve)) (list_any (λ (c : ChannelValue). same_name c.name name) s.channels) _ _
      (λ e. record { journals = still s; channels = λ f. same_channels s.channels })
      (λ e. on_test (Moves s (OpenChannel name preserve)) (nat_le 256 (length s.channels)) _ _
      (λ g. record { journals = still s; channels = λ f. same_channels s.channels })
      (λ g. record { journals = inl (record { journal = refl; executed = refl }); channels = λ f. before_push s.channels _ refl }))

  position_moves : (c : ℕ) → Moves s (Position c) (position_on c s)
  position_moves c =
      on_option (Moves s (Position c)) (λ channel. (Ask (ask s channel), with_channel s c (record channel { asked = Some (ask s channel) }))) (slice_get s.channels c) _
      (λ e. record { journals = still s; channels = λ f. never f })
      (λ ch e. record { journals = inl (record { journal = refl; executed = refl }); channels = λ f. never f })

  restart_moves : (c : ℕ) → Moves s (Restart c) (restart c s)
  restart_moves c =
      on_option (Moves s (Restart c)) (λ channel. (Restarted, with_channel s c (record channel { stopped = false }))) (slice_get s.channels c) _
      (λ e. record { journals = still s; channels = λ f. same_channels s.channels })
      (λ ch e. record { journals = inl (record { journal = refl; executed = refl }); channels = λ f. before_set s.channels c ch (record ch { stopped = false }) e refl refl })

  receive_moves : (c : ℕ) (entry : Entry) → Moves s (Receive c entry) (receive site c entry s)
  receive_moves c entry =
      on_option (Moves s (Receive c entry)) _ (slice_get s.channels c) _
      (λ e. record { journals = still s; channels = λ f. never f })
      (λ ch e. on_option (Moves s (Receive c entry)) _ ch.asked _
      (λ n. record { journals = still s; channels = λ f. never f })
      (λ A a. on_option (Moves s (Receive c entry)) (λ fault. (NotInSchema fault, s)) (misfit site.schema entry.txn) _
      (λ n. on_test (Moves s (Receive c entry)) (is_full ch) _ _
      (λ m. record { journals = still s; channels = λ f. never f })
      (λ m. record { journals = inl (record { journal = refl; executed = refl }); channels = λ f. never f }))
      (λ fault n. record { journals = still s; channels = λ f. never f })))

  take_moves : (seat c p : ℕ) → Moves s (Take seat c p) (take_place site seat c p s)
  take_moves seat c p =
      on_test (Moves s (Take seat c p)) (not (is_seat seat)) _ _
      (λ e. record { journals = still s; channels = λ f. same_channels s.channels })
      (λ e. on_option (Moves s (Take seat c p)) (λ g. (SeatBusy g, s)) (owned_by s seat) _
      (λ n. on_option (Moves s (Take seat c p)) _ (slice_get s.channels c) _
      (λ m. record { journals = still s; channels = λ f. same_channels s.channels })
      (λ ch here. on_option (Moves s (Take seat c p)) (λ x. take_entry site seat c p ch x s) (slice_get ch.received p) _
      (λ m. record { journals = still s; channels = λ f. same_channels s.channels })
      (λ x there. on_test (Moves s (Take seat c p)) ch.stopped _ _
      (λ m. record { journals = still s; channels = λ f. same_channels s.channels })
      (λ m. on_test (Moves s (Take seat c p)) (set.contains s.executed x.gtid) _ _
      (λ done. record { journals = still s; channels = λ f. same_channels s.channels })
      (λ new. on_option (Moves s (Take seat c p)) (λ other. (OwnedBy other, s)) (owner s x.gtid) _
      (λ unowned. on_option (Moves s (Take seat c p)) (λ q. (Blocked q, s)) (option_map_or (blocking site.schema s ch p) x.txn None) _
      (λ unblocked. record { journals = inl (record { journal = refl; executed = refl }); channels = λ f. same_channels s.channels })
      (λ q m. record { journals = still s; channels = λ f. same_channels s.channels }))
      (λ other m. record { journals = still s; channels = λ f. same_channels s.channels }))))))
      (λ g n. record { journals = still s; channels = λ f. same_channels s.channels }))

  rollback_moves : (seat : ℕ) → Moves s (Rollback seat) (rollback seat s)
  rollback_moves seat =
      on_test (Moves s (Rollback seat)) (not (is_seat seat)) _ _
      (λ e. record { journals = still s; channels = λ f. same_channels s.channels })
      (λ e. on_option (Moves s (Rollback seat)) (λ h. (RolledBack h.gtid, without_seat s seat)) (held s seat) _
      (λ n. record { journals = still s; channels = λ f. same_channels s.channels })
      (λ h n. record { journals = inl (record { journal = refl; executed = refl }); channels = λ f. same_channels s.channels }))

  stopped_before : (c : ℕ) → AreAsBefore s.channels (set_stopped_at true c s.channels)
  stopped_before c =
      on_option (AreAsBefore s.channels) (λ channel. slice_set s.channels c (record channel { stopped = true })) (slice_get s.channels c) s.channels
      (λ e. same_channels s.channels)
      (λ ch e. before_set s.channels c ch (record ch { stopped = true }) e refl refl)

  answer_moves : (seat c : ℕ) (g : Gtid) (t : Transaction) (r : Result Rows RowFault) → Moves s (Commit seat) (commit_answer g t seat c s r)
  answer_moves seat c g t (Ok rows) = record { journals = inr (inl (record { entry = record { gtid = g; txn = t }; journal = refl; executed = refl })); channels = λ f. before_settled s.channels g }
  answer_moves seat c g t (Err fault) = record { journals = inl (record { journal = refl; executed = refl }); channels = λ f. stopped_before c }

  commit_moves : (seat : ℕ) → Moves s (Commit seat) (commit site seat s)
  commit_moves seat =
      on_test (Moves s (Commit seat)) (not (is_seat seat)) _ _
      (λ e. record { journals = still s; channels = λ f. same_channels s.channels })
      (λ e. on_option (Moves s (Commit seat)) (commit_held site seat s) (held s seat) _
      (λ n. record { journals = still s; channels = λ f. same_channels s.channels })
      (λ h is. on_option (Moves s (Commit seat)) (λ q. (Early q, s)) (cond h.channel.preserve (open_before s h.channel h.spot.place) None) _
      (λ n. answer_moves seat h.spot.channel h.gtid h.txn (apply site.schema h.txn s.rows))
      (λ q n. record { journals = still s; channels = λ f. same_channels s.channels })))

  local_by : (g : Gtid) (t : Transaction) (r : Result Rows RowFault) → Moves s (Local t) (local_answer g t s r)
  local_by g t (Ok rows) = record { journals = inr (inl (record { entry = record { gtid = g; txn = t }; journal = refl; executed = refl })); channels = λ f. before_settled s.channels g }
  local_by g t (Err fault) = record { journals = still s; channels = λ f. same_channels s.channels }

  local_moves : (t : Transaction) → Moves s (Local t) (local site t s)
  local_moves t =
      on_option (Moves s (Local t)) (λ fault. (NotInSchema fault, s)) (misfit site.schema t) _
      (λ e. on_option (Moves s (Local t)) _ (next_number site s) _
      (λ n. record { journals = still s; channels = λ f. same_channels s.channels })
      (λ n is. local_by (gtid site.own n) t (apply site.schema t s.rows)))
      (λ fault e. record { journals = still s; channels = λ f. same_channels s.channels })

  purge_moves : (k : ℕ) → Moves s (Purge k) (purge k s)
  purge_moves k =
      on_test (Moves s (Purge k)) (nat_lt (length s.journal.entries) k) _ _
      (λ e. record { journals = still s; channels = λ f. same_channels s.channels })
      (λ e. record { journals = inr (inr (record { count = k; journal = refl; executed = refl })); channels = λ f. same_channels s.channels })

  pub step_moves : (e : Event) → Moves s e (step site s e)
  step_moves (OpenChannel name preserve) = open_moves name preserve
  step_moves (Position c) = position_moves c
  step_moves (Receive c entry) = receive_moves c entry
  step_moves (Take seat c p) = take_moves seat c p
  step_moves (Commit seat) = commit_moves seat
  step_moves (Rollback seat) = rollback_moves seat
  step_moves (Restart c) = restart_moves c
  step_moves (Local t) = local_moves t
  step_moves (Purge k) = purge_moves k
  step_moves Look = record { journals = still s; channels = λ f. same_channels s.channels }
