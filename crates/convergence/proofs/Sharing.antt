-- What a replica has executed once several channels were served.
use Rattle.std.proofs.Common.{◌≡◌, ℕ, Bool, true, false, cond, not, ◌||◌, ◌⊎◌, inl, inr, List, [], ◌∷◌, ◌++◌, map, Option, Some, None, Result, Ok, Err, refl, sym, ap, ◌∙◌, subst, eqb, append_assoc}
use Rattle.std.specs.Prelude.{slice_get, ◌==◌}
use Rattle.std.specs.Option.{option_map_or}
use Rattle.std.specs.List.{list_any, filter}
use Rattle.std.specs.FinSet as set
use Rattle.std.specs.FinSet.{contains-empty, contains-union, is_subset-contains, same_set}
use Rattle.std.proofs.lemmas.Bool.{eqb-true, eq-eqb, cases_Bool, or_cases, or_left, or_right}
use Rattle.rows.specs.declared.change.Transaction.{Transaction}
use Rattle.rows.specs.declared.change.RowFault.{RowFault}
use Rattle.rows.specs.Fits.{misfit}
use Rattle.rows.specs.Apply.{Rows, apply}
use Rattle.gtid_text.specs.declared.Gtid.{Gtid}
use Rattle.gtid_text.specs.Gtids.{gtid_cmp, same_gtid}
use Rattle.gtid_set.specs.Sets.{Gtids, gtid}
use Rattle.journal.specs.declared.Entry.{Entry}
use Rattle.journal.specs.Journals.{JournalValue, gtids_of, whole}
use Rattle.apply_channel.specs.Channels.{ChannelValue, Received}
use Rattle.replica_core.specs.declared.event.Event.{Event}
use Rattle.replica_core.specs.declared.event.Event.TheVariants.{OpenChannel, Position, Receive, Take, Commit, Rollback, Restart, Local, Purge, Look}
use Rattle.replica_core.specs.declared.event.Reply.{Reply}
use Rattle.replica_core.specs.declared.event.Reply.TheVariants.{NotInSchema, NoChannel, Ask}
use Rattle.replica_core.specs.State.{State, Site}
use Rattle.replica_core.specs.Machine.{Step, ask, with_channel, execute, next_number, local_answer, local, step, after}
use Rattle.history.specs.Join.{join}
use Rattle.auto_position.specs.Sending.{own_of}
use Rattle.convergence.specs.Served.{accepted_entries, on_channel, received_on, committed_here, local_commits, WasServed, Plan, is_planned, whole_sets, ServedAreJoined}
use Rattle.history.proofs.Covering.{is_entry, entry_of, has, in_insert, in_entries, in_gtids, in_whole, entries_append}
use Rattle.convergence.proofs.Sending.{sent_cases}
use Rattle.convergence.proofs.Receiving.{among_received}
use Rattle.convergence.proofs.Growing.{nothing, Known, Somewhere, Grows, gains_settled, step_grows}
use Rattle.convergence.proofs.Serving.{drained_known, in_filtered, passes}
use Rattle.std.proofs.lemmas.Map.Keys.{any_passes_from_place}
use Rattle.lemmas.proofs.Lists.{any_at}
use Rattle.lemmas.proofs.Options.{on_option}
use Rattle.lemmas.proofs.Tests.{same_bool}
use Rattle.lemmas.proofs.SameGtid.{same_itself, same_is_equal, gtid_total, gtid_exact}
use Rattle.convergence.proofs.Wholes.{same_ask}

-- what is known after events was known before, or is one of these, and so is what is received; and these are known
pub record Moves (s s' : State) (More : Gtid → Type 0) : Type 0 where
  pub origin : (g : Gtid) → Known s' g → Known s g ⊎ More g
  pub received : (g : Gtid) → Somewhere s'.channels g → Somewhere s.channels g ⊎ More g
  pub stays : (g : Gtid) → Known s g → Known s' g
  pub came : (g : Gtid) → More g → Known s' g

-- a step from s brings these
abbrev Brings : Event → Reply → Gtid → Type 0
Brings e r g = (is_entry (committed_here e r) g ≡ true) ⊎ ((c : ℕ) × (is_entry (on_channel c e (accepted_entries e r)) g ≡ true))

same_moves : (s : State) (More : Gtid → Type 0) → ((g : Gtid) → More g → ⊥) → Moves s s More
same_moves s More none = record { origin = λ g k. inl k; received = λ g w. inl w; stays = λ g k. k; came = λ g m. absurd (none g m) }

from_grows : (s s' : State) (xs : List Entry) (More : Gtid → Type 0) → ((g : Gtid) → is_entry xs g ≡ true → More g) → ((g : Gtid) → More g → is_entry xs g ≡ true) → Grows s s' xs → Moves s s' More
from_grows s s' xs More into back grows = record {
  origin = λ g k. elim (grows.origin g k) [ inl was ↦ inl was | inr is ↦ inr (into g is) ];
  received = λ g w. elim (grows.received g w) [ inl was ↦ inl was | inr is ↦ inr (into g is) ];
  stays = λ g k. elim k [ inl done ↦ inl (grows.kept g done) | inr w ↦ inr (grows.there g w) ];
  came = λ g m. inr (grows.arrived g (back g m));
}

on_itself : (d : ℕ) (xs : List Entry) (g : Gtid) → is_entry xs g ≡ true → is_entry (cond (eqb d d) xs []) g ≡ true
on_itself d xs g h = ap (λ b. is_entry (cond b xs []) g) (eq-eqb d d refl) ∙ h

pub on_some : (b : Bool) (xs : List Entry) (g : Gtid) → is_entry (cond b xs []) g ≡ true → is_entry xs g ≡ true
on_some true xs g h = h
on_some false xs g h = nothing g h

executing_moves : (s : State) (g : Gtid) (t : Transaction) (rows : Rows) (More : Gtid → Type 0) → More g → ((h : Gtid) → More h → h ≡ g) → Moves s (execute s g t rows) More
executing_moves s g t rows More it only =
    let gains = gains_settled s.channels g in
    record {
      origin = λ h k. elim k [
        | inl done ↦ elim (or_cases (same_gtid h g) (set.contains s.executed h) (sym (in_insert s.executed g h) ∙ done)) [
          | inl is ↦ inr (subst More (sym (same_is_equal h g is)) it)
          | inr was ↦ inl (inl was)
        ]
        | inr w ↦ elim (gains.origin h w) [ inl was ↦ inl (inr was) | inr never ↦ nothing h never ]
      ];
      received = λ h w. elim (gains.origin h w) [ inl was ↦ inl was | inr never ↦ nothing h never ];
      stays = λ h k. elim k [
        | inl done ↦ inl (in_insert s.executed g h ∙ or_right (same_gtid h g) (set.contains s.executed h) done)
        | inr w ↦ inr (gains.kept h w)
      ];
      came = λ h m. inl (in_insert s.executed g h ∙ or_left (same_gtid h g) (set.contains s.executed h) (ap (same_gtid h) (sym (only h m)) ∙ same_itself h));
    }

pub record StepMoves (s : State) (event : Event) (after : Step) : Type 0 where
  pub moves : Moves s after.1 (Brings event after.0)

no_locals : (g : Gtid) → ((is_entry [] g ≡ true) ⊎ ((c : ℕ) × (is_entry [] g ≡ true))) → ⊥
no_locals g (inl h) = nothing g h
no_locals g (inr h) = nothing g h.1

none_came : (g : Gtid) → ((is_entry [] g ≡ true) ⊎ ((c : ℕ) × (is_entry [] g ≡ true))) → is_entry [] g ≡ true
none_came g (inl h) = h
none_came g (inr h) = h.1

module _ (site : Site) (s : State) where
  local_by : (g : Gtid) (t : Transaction) (r : Result Rows RowFault) → StepMoves s (Local t) (local_answer g t s r)
  local_by g t (Ok rows) = record { moves = executing_moves s g t rows _ (inl (or_left (same_gtid g g) false (same_itself g))) only }
    where
      only : (h : Gtid) → ((is_entry (entry_of g t ∷ []) h ≡ true) ⊎ ((c : ℕ) × (is_entry [] h ≡ true))) → h ≡ g
      only h (inl i) = elim (or_cases (same_gtid h g) false i) [ inl is ↦ same_is_equal h g is | inr never ↦ nothing h never ]
      only h (inr i) = nothing h i.1
  local_by g t (Err fault) = record { moves = same_moves s _ no_locals }

  local_moves : (t : Transaction) → StepMoves s (Local t) (local site t s)
  local_moves t =
      on_option (StepMoves s (Local t)) (λ fault. (NotInSchema fault, s)) (misfit site.schema t) _
      (λ e. on_option (StepMoves s (Local t)) _ (next_number site s) _
      (λ n. record { moves = same_moves s _ no_locals })
      (λ n is. local_by (gtid site.own n) t (apply site.schema t s.rows)))
      (λ fault e. record { moves = same_moves s _ no_locals })

  receive_back : (d : ℕ) (xs : List Entry) (g : Gtid) → ((is_entry [] g ≡ true) ⊎ ((c : ℕ) × (is_entry (cond (eqb d c) xs []) g ≡ true))) → is_entry xs g ≡ true
  receive_back d xs g (inl h) = nothing g h
  receive_back d xs g (inr h) = on_some (eqb d h.0) xs g h.1

  pub step_moves : (e : Event) → Moves s (step site s e).1 (Brings e (step site s e).0)
  step_moves (OpenChannel name preserve) = from_grows s _ [] _ (λ g h. inl h) none_came ((step_grows site s (OpenChannel name preserve)).grows tt)
  step_moves (Position c) = from_grows s _ [] _ (λ g h. inl h) none_came ((step_grows site s (Position c)).grows tt)
  step_moves (Receive c entry) = from_grows s _ (accepted_entries (Receive c entry) (step site s (Receive c entry)).0) _ (λ g h. inr (c, on_itself c (accepted_entries (Receive c entry) (step site s (Receive c entry)).0) g h)) (receive_back c (accepted_entries (Receive c entry) (step site s (Receive c entry)).0)) ((step_grows site s (Receive c entry)).grows tt)
  step_moves (Take seat c p) = from_grows s _ [] _ (λ g h. inl h) none_came ((step_grows site s (Take seat c p)).grows tt)
  step_moves (Commit seat) = from_grows s _ [] _ (λ g h. inl h) none_came ((step_grows site s (Commit seat)).grows tt)
  step_moves (Rollback seat) = from_grows s _ [] _ (λ g h. inl h) none_came ((step_grows site s (Rollback seat)).grows tt)
  step_moves (Restart c) = from_grows s _ [] _ (λ g h. inl h) none_came ((step_grows site s (Restart c)).grows tt)
  step_moves (Local t) = (local_moves t).moves
  step_moves (Purge k) = from_grows s _ [] _ (λ g h. inl h) none_came ((step_grows site s (Purge k)).grows tt)
  step_moves Look = from_grows s _ [] _ (λ g h. inl h) none_came ((step_grows site s Look).grows tt)

-- ---- a run

abbrev pub Brought : Site → State → List Event → Gtid → Type 0
Brought site s events g = (is_entry (local_commits site s events) g ≡ true) ⊎ ((c : ℕ) × (is_entry (received_on c site s events) g ≡ true))

brought_first : (site : Site) (s : State) (e : Event) (es : List Event) (g : Gtid) → Brings e (step site s e).0 g → Brought site s (e ∷ es) g
brought_first site s e es g (inl h) = inl (entries_append (committed_here e (step site s e).0) (local_commits site (step site s e).1 es) g ∙ or_left (is_entry (committed_here e (step site s e).0) g) _ h)
brought_first site s e es g (inr h) = inr (h.0, entries_append (on_channel h.0 e (accepted_entries e (step site s e).0)) (received_on h.0 site (step site s e).1 es) g ∙ or_left (is_entry (on_channel h.0 e (accepted_entries e (step site s e).0)) g) _ h.1)

brought_later : (site : Site) (s : State) (e : Event) (es : List Event) (g : Gtid) → Brought site (step site s e).1 es g → Brought site s (e ∷ es) g
brought_later site s e es g (inl h) = inl (entries_append (committed_here e (step site s e).0) (local_commits site (step site s e).1 es) g ∙ or_right (is_entry (committed_here e (step site s e).0) g) _ h)
brought_later site s e es g (inr h) = inr (h.0, entries_append (on_channel h.0 e (accepted_entries e (step site s e).0)) (received_on h.0 site (step site s e).1 es) g ∙ or_right (is_entry (on_channel h.0 e (accepted_entries e (step site s e).0)) g) _ h.1)

brought_cases : (site : Site) (s : State) (e : Event) (es : List Event) (g : Gtid) → Brought site s (e ∷ es) g → Brings e (step site s e).0 g ⊎ Brought site (step site s e).1 es g
brought_cases site s e es g (inl h) = elim (or_cases (is_entry (committed_here e (step site s e).0) g) (is_entry (local_commits site (step site s e).1 es) g) (sym (entries_append (committed_here e (step site s e).0) (local_commits site (step site s e).1 es) g) ∙ h)) [ inl a ↦ inl (inl a) | inr b ↦ inr (inl b) ]
brought_cases site s e es g (inr h) = elim (or_cases (is_entry (on_channel h.0 e (accepted_entries e (step site s e).0)) g) (is_entry (received_on h.0 site (step site s e).1 es) g) (sym (entries_append (on_channel h.0 e (accepted_entries e (step site s e).0)) (received_on h.0 site (step site s e).1 es) g) ∙ h.1)) [ inl a ↦ inl (inr (h.0, a)) | inr b ↦ inr (inr (h.0, b)) ]

pub run_moves : (site : Site) (s : State) (events : List Event) → Moves s (after site s events) (Brought site s events)
run_moves site s [] = same_moves s _ no_locals
run_moves site s (e ∷ es) =
    let one = step_moves site s e in
    let rest = run_moves site (step site s e).1 es in
    record {
      origin = λ g k. elim (rest.origin g k) [
        | inl was ↦ elim (one.origin g was) [ inl before ↦ inl before | inr b ↦ inr (brought_first site s e es g b) ]
        | inr b ↦ inr (brought_later site s e es g b)
      ];
      received = λ g w. elim (rest.received g w) [
        | inl was ↦ elim (one.received g was) [ inl before ↦ inl before | inr b ↦ inr (brought_first site s e es g b) ]
        | inr b ↦ inr (brought_later site s e es g b)
      ];
      stays = λ g k. rest.stays g (one.stays g k);
      came = λ g m. elim (brought_cases site s e es g m) [ inl b ↦ rest.stays g (one.came g b) | inr b ↦ rest.came g b ];
    }

pub after_append : (site : Site) (s : State) (xs ys : List Event) → after site s (xs ++ ys) ≡ after site (after site s xs) ys
after_append site s [] ys = refl
after_append site s (x ∷ xs) ys = after_append site (step site s x).1 xs ys

pub received_append : (c : ℕ) (site : Site) (s : State) (xs ys : List Event) → received_on c site s (xs ++ ys) ≡ received_on c site s xs ++ received_on c site (after site s xs) ys
received_append c site s [] ys = refl
received_append c site s (x ∷ xs) ys =
    ap (λ zs. on_channel c x (accepted_entries x (step site s x).0) ++ zs) (received_append c site (step site s x).1 xs ys)
    ∙ sym (append_assoc (on_channel c x (accepted_entries x (step site s x).0)) (received_on c site (step site s x).1 xs) (received_on c site (after site (step site s x).1 xs) ys))

abbrev asking : State → ℕ → Option ChannelValue → Step
asking s c o = option_map_or (λ channel. (Ask (ask s channel), with_channel s c (record channel { asked = Some (ask s channel) }))) o (NoChannel, s)

asked_by : (s : State) (c : ℕ) (o : Option ChannelValue) (A : Gtids) → (asking s c o).0 ≡ Ask A → (ch : ChannelValue) × (o ≡ Some ch) × (ask s ch ≡ A)
asked_by s c None A e = cc
asked_by s c (Some ch) A e = (ch, refl, same_ask (ask s ch) A e)

-- what is asked with is known
ask_known : (site : Site) (s : State) (c : ℕ) (A : Gtids) → (step site s (Position c)).0 ≡ Ask A → (g : Gtid) → set.contains A g ≡ true → Known s g
ask_known site s c A e g h =
    let r = asked_by s c (slice_get s.channels c) A e in
    let both = sym (contains-union gtid_total s.executed (set.from_list (map (λ (x : Received). x.gtid) r.0.received)) g) ∙ (ap (λ (X : Gtids). set.contains X g) r.2 ∙ h) in
    elim (or_cases (set.contains s.executed g) (set.contains (set.from_list {R = gtid_cmp} (map (λ (x : Received). x.gtid) r.0.received)) g) both) [
      | inl done ↦ inl done
      | inr there ↦ inr (c, r.0, r.1, among_received r.0.received g (sym (in_gtids (map (λ (x : Received). x.gtid) r.0.received) g) ∙ there))
    ]

-- all that a served channel receives
pub served_all : (site : Site) (s : State) (events : List Event) (c : ℕ) (j : JournalValue) (w : WasServed site s events c j) → received_on c site s events ≡ w.all
served_all site s events c j w =
    ap (received_on c site s) w.parts
    ∙ (received_append c site s w.before (Position c ∷ w.later)
    ∙ (ap (λ zs. zs ++ received_on c site (step site (after site s w.before) (Position c)).1 w.later) w.nothing_before ∙ w.all_received))

-- all of a journal that was served is known
pub served_known : (site : Site) (s : State) (events : List Event) (c : ℕ) (j : JournalValue) → WasServed site s events c j → (g : Gtid) → has j g ≡ true → Known (after site s events) g
served_known site s events c j w g h =
    let s1 = after site s w.before in
    let cases = sent_cases (set.is_subset j.previous w.ask) (set.is_subset (own_of w.ask w.own) (whole j)) _ _ (filter (λ (e : Entry). not (set.contains w.ask e.gtid)) j.entries) w.all w.all_sent in
    let ends : after site s events ≡ after site s1 (Position c ∷ w.later) = ap (after site s) w.parts ∙ after_append site s w.before (Position c ∷ w.later) in
    let asked : set.contains w.ask g ≡ true → Known (after site s events) g = λ i. subst (λ (x : State). Known x g) (sym ends) ((run_moves site s1 (Position c ∷ w.later)).stays g (ask_known site s1 c w.ask w.asked g i)) in
    elim (or_cases (set.contains j.previous g) (is_entry j.entries g) h) [
      | inl purged ↦ asked (is_subset-contains gtid_total j.previous w.ask cases.0 g purged)
      | inr entry ↦ elim (cases_Bool (set.contains w.ask g)) [
        | inl i ↦ asked i
        | inr new ↦
            let passed = passes (λ (e : Entry). not (set.contains w.ask e.gtid)) j.entries g (λ e same. ap (λ (x : Gtid). not (set.contains w.ask x)) (sym (same_is_equal g e.gtid same)) ∙ ap not new) entry in
            (run_moves site s events).came g (inr (c, ap (λ es. is_entry es g) (served_all site s events c j w ∙ sym cases.1) ∙ passed))
      ]
    ]

in_wholes : (plan : Plan) (g : Gtid) → set.contains (whole_sets plan) g ≡ list_any (λ p. has p.1 g) plan
in_wholes [] g = contains-empty gtid_cmp g
in_wholes (p ∷ plan) g = contains-union gtid_total (whole p.1) (whole_sets plan) g ∙ (λ i. in_whole p.1 g i || in_wholes plan g i)

pub served_are_joined : ServedAreJoined
served_are_joined site s events plan drained served others drained_after =
    let end = after site s events in
    let moves = run_moves site s events in
    let locals = local_commits site s events in
    same_set gtid_total gtid_exact end.executed (join s.executed (join (gtids_of locals) (whole_sets plan))) (λ g.
    let a = set.contains s.executed g in
    let b = is_entry locals g in
    let c = list_any (λ (p : ℕ × JournalValue). has p.1 g) plan in
    let split : set.contains (join s.executed (join (gtids_of locals) (whole_sets plan))) g ≡ (a || (b || c)) =
    contains-union gtid_total s.executed (join (gtids_of locals) (whole_sets plan)) g
    ∙ ap (λ x. a || x) (contains-union gtid_total (gtids_of locals) (whole_sets plan) g ∙ (λ i. (in_entries locals g) i || in_wholes plan g i)) in
    same_bool (set.contains end.executed g) (set.contains (join s.executed (join (gtids_of locals) (whole_sets plan))) g)
    (λ h. split ∙ elim (moves.origin g (inl h)) [
      | inl known ↦ or_left a (b || c) (drained_known s g drained known)
      | inr brought ↦ or_right a (b || c) (elim brought [
        | inl here ↦ or_left b c here
        | inr came ↦ or_right b c (elim (cases_Bool (is_planned plan came.0)) [
          | inl planned ↦
              let p = any_at (λ (q : ℕ × JournalValue). q.0 == came.0) plan planned in
              let w = served p.0 p.1 p.2 in
              let on : is_entry (received_on p.1.0 site s events) g ≡ true = ap (λ n. is_entry (received_on n site s events) g) (eqb-true p.1.0 came.0 p.3) ∙ came.1 in
              let cases = sent_cases (set.is_subset p.1.1.previous w.ask) (set.is_subset (own_of w.ask w.own) (whole p.1.1)) _ _ (filter (λ (e : Entry). not (set.contains w.ask e.gtid)) p.1.1.entries) w.all w.all_sent in
              let entry = in_filtered (λ (e : Entry). not (set.contains w.ask e.gtid)) p.1.1.entries g (ap (λ es. is_entry es g) (cases.1 ∙ sym (served_all site s events p.1.0 p.1.1 w)) ∙ on) in
              any_passes_from_place (λ (q : ℕ × JournalValue). has q.1 g) plan p.0 p.1 p.2 (or_right (set.contains p.1.1.previous g) (is_entry p.1.1.entries g) entry)
          | inr unplanned ↦ nothing g (ap (λ es. is_entry es g) (sym (others came.0 unplanned)) ∙ came.1)
        ])
      ])
    ])
    (λ h. elim (or_cases a (b || c) (sym split ∙ h)) [
      | inl was ↦ drained_known end g drained_after (moves.stays g (inl was))
      | inr rest ↦ elim (or_cases b c rest) [
        | inl here ↦ drained_known end g drained_after (moves.came g (inl here))
        | inr in_journal ↦
            let p = any_at (λ (q : ℕ × JournalValue). has q.1 g) plan in_journal in
            drained_known end g drained_after (served_known site s events p.1.0 p.1.1 (served p.0 p.1 p.2) g p.3)
      ]
    ]))
