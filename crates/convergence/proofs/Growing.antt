-- What is executed or received after an event was so before, or came with the event.
use Rattle.std.proofs.Common.{◌≡◌, ℕ, zero, suc, Bool, true, false, cond, not, ◌⊎◌, inl, inr, List, [], ◌∷◌, ◌++◌, map, length, Some, None, Result, Ok, Err, refl, sym, ap, ◌∙◌, subst}
use Rattle.std.specs.Prelude.{slice_get, slice_set, nat_le, nat_lt}
use Rattle.std.specs.Option.{option_map_or, option_and_then}
use Rattle.std.specs.List.{list_any}
use Rattle.std.specs.FinMap as finmap
use Rattle.std.specs.FinSet as set
use Rattle.rows.specs.declared.change.Transaction.{Transaction}
use Rattle.rows.specs.declared.change.RowFault.{RowFault}
use Rattle.rows.specs.Fits.{misfit}
use Rattle.rows.specs.Apply.{Rows, apply}
use Rattle.gtid_text.specs.declared.Gtid.{Gtid}
use Rattle.gtid_text.specs.Gtids.{same_gtid}
use Rattle.gtid_set.specs.Sets.{Gtids}
use Rattle.journal.specs.declared.Entry.{Entry}
use Rattle.apply_channel.specs.Channels.{ChannelValue, Received, settle, settle_channel, same_name, is_full}
use Rattle.replica_core.specs.declared.event.Event.{Event}
use Rattle.replica_core.specs.declared.event.Event.TheVariants.{OpenChannel, Position, Receive, Take, Commit, Rollback, Restart, Local, Purge, Look}
use Rattle.replica_core.specs.declared.event.Reply.TheVariants.{NotInSchema, Ask, SeatBusy, OwnedBy, Blocked, Early, RolledBack, Restarted}
use Rattle.replica_core.specs.State.{State, Site, owned_by, owner}
use Rattle.replica_core.specs.Machine.{Step, is_seat, ask, blocking, open_before, with_channel, without_seat, set_stopped_at, open_channel, position_on, receive, take_entry, take_place, Held, held_of, held_at, held, commit_answer, commit_held, commit, rollback, restart, next_number, local_answer, local, purge, step}
use Rattle.convergence.specs.Served.{accepted_entries, IsNoLocalCommit}
use Rattle.convergence.proofs.Receiving.{settle_gtid, received_entry}
use Rattle.convergence.proofs.Invariant.{Stands}
use Rattle.history.proofs.Covering.{is_entry, in_insert}
use Rattle.std.proofs.lemmas.Bool.{or_cases, or_left, or_right}
use Rattle.std.proofs.lemmas.Option.{same_Some}
use Rattle.lemmas.proofs.Options.{none_some, map_some, and_then_some, on_option}
use Rattle.lemmas.proofs.SameGtid.{same_itself, same_is_equal}
use Rattle.lemmas.proofs.Lists.{get_push_cases, get_set_cases, get_set_from, get_map, get_append_left, get_push, get_map_cases}
use Rattle.lemmas.proofs.Tests.{on_test}

-- a GTID was received on some channel
abbrev pub Somewhere : List ChannelValue → Gtid → Type 0
Somewhere channels g = (c : ℕ) × (ch : ChannelValue) × (slice_get channels c ≡ Some ch) × Stands g ch.received

-- the channels have what they had, and these entries
pub record Gains (old new : List ChannelValue) (more : List Entry) : Type 0 where
  pub origin : (g : Gtid) → Somewhere new g → Somewhere old g ⊎ (is_entry more g ≡ true)
  pub kept : (g : Gtid) → Somewhere old g → Somewhere new g
  pub arrived : (g : Gtid) → is_entry more g ≡ true → Somewhere new g

pub nothing : (g : Gtid) {A : Type 0} → is_entry [] g ≡ true → A
nothing g e = cc

pub gains_none : (channels : List ChannelValue) → Gains channels channels []
gains_none channels = record { origin = λ g w. inl w; kept = λ g w. w; arrived = λ g e. nothing g e }

gains_push : (channels : List ChannelValue) (new : ChannelValue) → new.received ≡ [] → Gains channels (channels ++ new ∷ []) []
gains_push channels new none = record {
  origin = λ g w. elim (get_push_cases channels new w.0 w.1 w.2) [
    | inl old ↦ inl (w.0, w.1, old, w.3)
    | inr last ↦ none_some w.3.1 (ap (λ rs. slice_get rs w.3.0) (sym none ∙ ap (λ (x : ChannelValue). x.received) last.1) ∙ w.3.2)
  ];
  kept = λ g w. (w.0, w.1, get_append_left channels (new ∷ []) w.0 w.1 w.2, w.3);
  arrived = λ g e. nothing g e;
}

-- one channel changes
gains_set : (channels : List ChannelValue) (c : ℕ) (old new : ChannelValue) (more : List Entry) → slice_get channels c ≡ Some old → ((g : Gtid) → Stands g new.received → Stands g old.received ⊎ (is_entry more g ≡ true)) → ((g : Gtid) → Stands g old.received → Stands g new.received) → ((g : Gtid) → is_entry more g ≡ true → Stands g new.received) → Gains channels (slice_set channels c new) more
gains_set channels c old new more here from on came = record {
  origin = λ g w. elim (get_set_cases channels c new w.0 w.1 w.2) [
    | inl at ↦ elim (from g (subst (λ (x : ChannelValue). Stands g x.received) (sym at.1) w.3)) [ inl was ↦ inl (c, old, here, was) | inr is ↦ inr is ]
    | inr other ↦ inl (w.0, w.1, other.1, w.3)
  ];
  kept = λ g w. elim (get_set_from channels c new w.0 w.1 w.2) [
    | inl same ↦ (w.0, w.1, same, w.3)
    | inr at ↦
        let is_old : w.1 ≡ old = same_Some w.1 old (sym w.2 ∙ (ap (slice_get channels) at.0 ∙ here)) in
        (w.0, new, at.1, on g (subst (λ (x : ChannelValue). Stands g x.received) is_old w.3))
  ];
  arrived = λ g e. elim (get_set_from channels c new c old here) [
    | inl same ↦ (c, old, same, stays g old new same e)
    | inr at ↦ (c, new, at.1, came g e)
  ];
}
  where
    set_there : (xs : List ChannelValue) (i : ℕ) (x v : ChannelValue) → slice_get xs i ≡ Some x → slice_get (slice_set xs i v) i ≡ Some v
    set_there [] i x v e = none_some x e
    set_there (y ∷ xs) zero x v e = refl
    set_there (y ∷ xs) (suc i) x v e = set_there xs i x v e

    stays : (g : Gtid) (x y : ChannelValue) → slice_get (slice_set channels c new) c ≡ Some x → is_entry more g ≡ true → Stands g x.received
    stays g x y e m = subst (λ (z : ChannelValue). Stands g z.received) (same_Some new x (sym (set_there channels c old new here) ∙ e)) (came g m)

gains_set_same : (channels : List ChannelValue) (c : ℕ) (old new : ChannelValue) → slice_get channels c ≡ Some old → new.received ≡ old.received → Gains channels (slice_set channels c new) []
gains_set_same channels c old new here same =
    gains_set channels c old new [] here (λ g w. inl (subst (Stands g) same w)) (λ g w. subst (Stands g) (sym same) w) (λ g e. nothing g e)

gains_received : (channels : List ChannelValue) (c : ℕ) (old new : ChannelValue) (e : Received) (entry : Entry) → slice_get channels c ≡ Some old → new.received ≡ old.received ++ e ∷ [] → e.gtid ≡ entry.gtid → Gains channels (slice_set channels c new) (entry ∷ [])
gains_received channels c old new e entry here same id =
    gains_set channels c old new (entry ∷ []) here
    (λ g w. elim (get_push_cases old.received e w.0 w.1 (ap (λ rs. slice_get rs w.0) (sym same) ∙ w.2)) [
      | inl was ↦ inl (w.0, w.1, was, w.3)
      | inr last ↦
          let is_g : g ≡ entry.gtid = sym w.3 ∙ (ap (λ (x : Received). x.gtid) (sym last.1) ∙ id) in
          inr (or_left (same_gtid g entry.gtid) false (ap (same_gtid g) (sym is_g) ∙ same_itself g))
    ])
    (λ g w. (w.0, w.1, ap (λ rs. slice_get rs w.0) same ∙ get_append_left old.received (e ∷ []) w.0 w.1 w.2, w.3))
    (λ g i. elim (or_cases (same_gtid g entry.gtid) false i) [
      | inl is ↦ (length old.received, e, ap (λ rs. slice_get rs (length old.received)) same ∙ get_push old.received e, id ∙ sym (same_is_equal g entry.gtid is))
      | inr missing ↦ absurd (never missing)
    ])
  where
    never : false ≡ true → ⊥
    never p = cc

pub gains_settled : (channels : List ChannelValue) (h : Gtid) → Gains channels (map (settle_channel h) channels) []
gains_settled channels h = record {
  origin = λ g w.
      let r = get_map_cases (settle_channel h) channels w.0 w.1 w.2 in
      let q = get_map_cases (settle h) r.0.received w.3.0 w.3.1 (ap (λ (x : ChannelValue). slice_get x.received w.3.0) r.2 ∙ w.3.2) in
      inl (w.0, r.0, r.1, (w.3.0, q.0, q.1, sym (settle_gtid h q.0) ∙ (ap (λ (x : Received). x.gtid) q.2 ∙ w.3.3)));
  kept = λ g w. (w.0, settle_channel h w.1, get_map (settle_channel h) channels w.0 w.1 w.2, (w.3.0, settle h w.3.1, get_map (settle h) w.1.received w.3.0 w.3.1 w.3.2, settle_gtid h w.3.1 ∙ w.3.3));
  arrived = λ g e. nothing g e;
}

-- ---- a step

abbrev pub Known : State → Gtid → Type 0
Known s g = (set.contains s.executed g ≡ true) ⊎ Somewhere s.channels g

pub record Grows (s s' : State) (more : List Entry) : Type 0 where
  pub origin : (g : Gtid) → Known s' g → Known s g ⊎ (is_entry more g ≡ true)
  pub kept : (g : Gtid) → set.contains s.executed g ≡ true → set.contains s'.executed g ≡ true
  pub there : (g : Gtid) → Somewhere s.channels g → Somewhere s'.channels g
  pub received : (g : Gtid) → Somewhere s'.channels g → Somewhere s.channels g ⊎ (is_entry more g ≡ true)
  pub arrived : (g : Gtid) → is_entry more g ≡ true → Somewhere s'.channels g

pub grows_channels : (s s' : State) (more : List Entry) → s'.executed ≡ s.executed → Gains s.channels s'.channels more → Grows s s' more
grows_channels s s' more same gains = record {
  origin = λ g k. elim k [
    | inl done ↦ inl (inl (ap (λ (x : Gtids). set.contains x g) (sym same) ∙ done))
    | inr w ↦ elim (gains.origin g w) [ inl was ↦ inl (inr was) | inr is ↦ inr is ]
  ];
  kept = λ g done. ap (λ (x : Gtids). set.contains x g) same ∙ done;
  there = gains.kept;
  received = gains.origin;
  arrived = gains.arrived;
}

grows_executing : (s s' : State) (g : Gtid) → s'.executed ≡ set.insert s.executed g → Gains s.channels s'.channels [] → Somewhere s.channels g → Grows s s' []
grows_executing s s' g same gains w = record {
  origin = λ h k. elim k [
    | inl done ↦ elim (or_cases (same_gtid h g) (set.contains s.executed h) (sym (in_insert s.executed g h) ∙ (ap (λ (x : Gtids). set.contains x h) (sym same) ∙ done))) [
      | inl is ↦ inl (inr (subst (Somewhere s.channels) (sym (same_is_equal h g is)) w))
      | inr was ↦ inl (inl was)
    ]
    | inr v ↦ elim (gains.origin h v) [ inl was ↦ inl (inr was) | inr missing ↦ nothing h missing ]
  ];
  kept = λ h done. ap (λ (x : Gtids). set.contains x h) same ∙ (in_insert s.executed g h ∙ or_right (same_gtid h g) (set.contains s.executed h) done);
  there = gains.kept;
  received = gains.origin;
  arrived = λ h e. nothing h e;
}

pub record StepGrows (s : State) (event : Event) (after : Step) : Type 0 where
  pub grows : IsNoLocalCommit event after.0 → Grows s after.1 (accepted_entries event after.0)

module _ (site : Site) (s : State) where
  abbrev same : Grows s s []
  same = grows_channels s s [] refl (gains_none s.channels)

  open_grows : (name : List ℕ) (preserve : Bool) → StepGrows s (OpenChannel name preserve) (open_channel name preserve s)
  open_grows name preserve =
      on_test (StepGrows s (OpenChannel name preserve)) (list_any (λ (c : ChannelValue). same_name c.name name) s.channels) _ _
      (λ e. record { grows = λ f. same })
      (λ e. on_test (StepGrows s (OpenChannel name preserve)) (nat_le 256 (length s.channels)) _ _
      (λ g. record { grows = λ f. same })
      (λ g. record { grows = λ f. grows_channels s _ [] refl (gains_push s.channels _ refl) }))

  position_grows : (c : ℕ) → StepGrows s (Position c) (position_on c s)
  position_grows c =
      on_option (StepGrows s (Position c)) (λ channel. (Ask (ask s channel), with_channel s c (record channel { asked = Some (ask s channel) }))) (slice_get s.channels c) _
      (λ e. record { grows = λ f. same })
      (λ ch e. record { grows = λ f. grows_channels s _ [] refl (gains_set_same s.channels c ch (record ch { asked = Some (ask s ch) }) e refl) })

  restart_grows : (c : ℕ) → StepGrows s (Restart c) (restart c s)
  restart_grows c =
      on_option (StepGrows s (Restart c)) (λ channel. (Restarted, with_channel s c (record channel { stopped = false }))) (slice_get s.channels c) _
      (λ e. record { grows = λ f. same })
      (λ ch e. record { grows = λ f. grows_channels s _ [] refl (gains_set_same s.channels c ch (record ch { stopped = false }) e refl) })

  receive_grows : (c : ℕ) (entry : Entry) → StepGrows s (Receive c entry) (receive site c entry s)
  receive_grows c entry =
      on_option (StepGrows s (Receive c entry)) _ (slice_get s.channels c) _
      (λ e. record { grows = λ f. same })
      (λ ch e. on_option (StepGrows s (Receive c entry)) _ ch.asked _
      (λ n. record { grows = λ f. same })
      (λ A a. on_option (StepGrows s (Receive c entry)) (λ fault. (NotInSchema fault, s)) (misfit site.schema entry.txn) _
      (λ n. on_test (StepGrows s (Receive c entry)) (is_full ch) _ _
      (λ m. record { grows = λ f. same })
      (λ m. record { grows = λ f. grows_channels s _ (entry ∷ []) refl (gains_received s.channels c ch (record ch { received = ch.received ++ received_entry s entry ∷ [] }) (received_entry s entry) entry e refl refl) }))
      (λ fault n. record { grows = λ f. same })))

  take_grows : (seat c p : ℕ) → StepGrows s (Take seat c p) (take_place site seat c p s)
  take_grows seat c p =
      on_test (StepGrows s (Take seat c p)) (not (is_seat seat)) _ _
      (λ e. record { grows = λ f. same })
      (λ e. on_option (StepGrows s (Take seat c p)) (λ g. (SeatBusy g, s)) (owned_by s seat) _
      (λ n. on_option (StepGrows s (Take seat c p)) _ (slice_get s.channels c) _
      (λ m. record { grows = λ f. same })
      (λ ch here. on_option (StepGrows s (Take seat c p)) (λ x. take_entry site seat c p ch x s) (slice_get ch.received p) _
      (λ m. record { grows = λ f. same })
      (λ x there. on_test (StepGrows s (Take seat c p)) ch.stopped _ _
      (λ m. record { grows = λ f. same })
      (λ m. on_test (StepGrows s (Take seat c p)) (set.contains s.executed x.gtid) _ _
      (λ done. record { grows = λ f. same })
      (λ new. on_option (StepGrows s (Take seat c p)) (λ other. (OwnedBy other, s)) (owner s x.gtid) _
      (λ unowned. on_option (StepGrows s (Take seat c p)) (λ q. (Blocked q, s)) (option_map_or (blocking site.schema s ch p) x.txn None) _
      (λ unblocked. record { grows = λ f. grows_channels s _ [] refl (gains_none s.channels) })
      (λ q m. record { grows = λ f. same }))
      (λ other m. record { grows = λ f. same }))))))
      (λ g n. record { grows = λ f. same }))

  rollback_grows : (seat : ℕ) → StepGrows s (Rollback seat) (rollback seat s)
  rollback_grows seat =
      on_test (StepGrows s (Rollback seat)) (not (is_seat seat)) _ _
      (λ e. record { grows = λ f. same })
      (λ e. on_option (StepGrows s (Rollback seat)) (λ h. (RolledBack h.gtid, without_seat s seat)) (held s seat) _
      (λ n. record { grows = λ f. same })
      (λ h n. record { grows = λ f. grows_channels s _ [] refl (gains_none s.channels) }))

  held_somewhere : (seat : ℕ) (h : Held) → held s seat ≡ Some h → Somewhere s.channels h.gtid
  held_somewhere seat h e =
      let a = and_then_some (held_at s) (finmap.get s.seats seat) h e in
      let b = and_then_some (λ (ch : ChannelValue). option_and_then (held_of a.0 ch) (slice_get ch.received a.0.place)) (slice_get s.channels a.0.channel) h a.2 in
      let c = and_then_some (held_of a.0 b.0) (slice_get b.0.received a.0.place) h b.2 in
      let d = map_some (λ (t : Transaction). record { spot = a.0; channel = b.0; gtid = c.0.gtid; txn = t }) c.0.txn h c.2 in
      (a.0.channel, b.0, b.1, (a.0.place, c.0, c.1, ap (λ (x : Held). x.gtid) d.2))

  stopped_gains : (c : ℕ) → Gains s.channels (set_stopped_at true c s.channels) []
  stopped_gains c =
      on_option (λ xs. Gains s.channels xs []) (λ channel. slice_set s.channels c (record channel { stopped = true })) (slice_get s.channels c) s.channels
      (λ e. gains_none s.channels)
      (λ ch e. gains_set_same s.channels c ch (record ch { stopped = true }) e refl)

  answer_grows : (seat c : ℕ) (g : Gtid) (t : Transaction) (r : Result Rows RowFault) → Somewhere s.channels g → StepGrows s (Commit seat) (commit_answer g t seat c s r)
  answer_grows seat c g t (Ok rows) w = record { grows = λ f. grows_executing s _ g refl (gains_settled s.channels g) w }
  answer_grows seat c g t (Err fault) w = record { grows = λ f. grows_channels s _ [] refl (stopped_gains c) }

  commit_grows : (seat : ℕ) → StepGrows s (Commit seat) (commit site seat s)
  commit_grows seat =
      on_test (StepGrows s (Commit seat)) (not (is_seat seat)) _ _
      (λ e. record { grows = λ f. same })
      (λ e. on_option (StepGrows s (Commit seat)) (commit_held site seat s) (held s seat) _
      (λ n. record { grows = λ f. same })
      (λ h is. on_option (StepGrows s (Commit seat)) (λ q. (Early q, s)) (cond h.channel.preserve (open_before s h.channel h.spot.place) None) _
      (λ n. answer_grows seat h.spot.channel h.gtid h.txn (apply site.schema h.txn s.rows) (held_somewhere seat h is))
      (λ q n. record { grows = λ f. same })))

  local_by : (g : Gtid) (t : Transaction) (r : Result Rows RowFault) → StepGrows s (Local t) (local_answer g t s r)
  local_by g t (Ok rows) = record { grows = λ f. absurd f }
  local_by g t (Err fault) = record { grows = λ f. same }

  local_grows : (t : Transaction) → StepGrows s (Local t) (local site t s)
  local_grows t =
      on_option (StepGrows s (Local t)) (λ fault. (NotInSchema fault, s)) (misfit site.schema t) _
      (λ e. on_option (StepGrows s (Local t)) _ (next_number site s) _
      (λ n. record { grows = λ f. same })
      (λ n is. local_by (record { source = site.own; number = n }) t (apply site.schema t s.rows)))
      (λ fault e. record { grows = λ f. same })

  purge_grows : (k : ℕ) → StepGrows s (Purge k) (purge k s)
  purge_grows k =
      on_test (StepGrows s (Purge k)) (nat_lt (length s.journal.entries) k) _ _
      (λ e. record { grows = λ f. same })
      (λ e. record { grows = λ f. grows_channels s _ [] refl (gains_none s.channels) })

  pub step_grows : (e : Event) → StepGrows s e (step site s e)
  step_grows (OpenChannel name preserve) = open_grows name preserve
  step_grows (Position c) = position_grows c
  step_grows (Receive c entry) = receive_grows c entry
  step_grows (Take seat c p) = take_grows seat c p
  step_grows (Commit seat) = commit_grows seat
  step_grows (Rollback seat) = rollback_grows seat
  step_grows (Restart c) = restart_grows c
  step_grows (Local t) = local_grows t
  step_grows (Purge k) = purge_grows k
  step_grows Look = record { grows = λ f. same }
