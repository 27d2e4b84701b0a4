-- Runs that serve journals whole are faithful.
use Rattle.std.proofs.Common.{◌≡◌, ℕ, zero, suc, ◌<◌, Ok, Bool, true, false, cond, not, ◌⊎◌, inl, inr, List, [], ◌∷◌, ◌++◌, length, Option, Some, None, refl, sym, ap, ◌∙◌, subst, arith, eqb, append_assoc, append-nil}
use Rattle.std.specs.Prelude.{slice_get, slice_set, nat_le}
use Rattle.std.specs.Option.{option_and_then, option_map_or}
use Rattle.std.specs.List.{list_any, list_all}
use Rattle.std.proofs.lemmas.Bool.{eqb-true, eq-eqb, cases_Bool, and_parts, not-true}
use Rattle.gtid_set.specs.Sets.{Gtids}
use Rattle.rows.specs.Fits.{misfit}
use Rattle.journal.specs.declared.Entry.{Entry}
use Rattle.journal.specs.Journals.{JournalValue}
use Rattle.apply_channel.specs.Channels.{ChannelValue, same_name, is_full}
use Rattle.replica_core.specs.declared.event.Event.{Event}
use Rattle.replica_core.specs.declared.event.Event.TheVariants.{OpenChannel, Position, Receive, Take, Commit, Rollback, Restart, Local, Purge, Look}
use Rattle.replica_core.specs.declared.event.Reply.{Reply}
use Rattle.replica_core.specs.declared.event.Reply.TheVariants.{NotInSchema, NoChannel, Ask, Received, Committed}
use Rattle.replica_core.specs.State.{State, Site}
use Rattle.replica_core.specs.Machine.{Step, ask, with_channel, open_channel, position_on, receive, step, after}
use Rattle.history.specs.World.{OrderedWorld}
use Rattle.history.specs.Faithful.{IsFaithful}
use Rattle.auto_position.specs.Sending.{sent}
use Rattle.convergence.specs.Faithful.{Since, since_after, asked_with, IsFaithfulStep, IsFaithfulFrom}
use Rattle.convergence.specs.Served.{accepted_entries, on_channel, received_on, IsNoLocalCommit, NoLocalCommits}
use Rattle.convergence.specs.Whole.{is_position, WasServedOnce, ServedIsFaithful}
use Rattle.convergence.proofs.Asking.{step_asks}
use Rattle.std.proofs.lemmas.Option.{same_Some, slice_get_within}
use Rattle.lemmas.proofs.Options.{none_some, and_then_some, on_option}
use Rattle.lemmas.proofs.Tests.{on_test}
use Rattle.lemmas.proofs.Numbers.{eqb_swap}

-- the channel is there, so it is none that is opened now
old_channel : (s : State) (k : ℕ) (A : Gtids) → asked_with s k ≡ Some A → eqb k (length s.channels) ≡ false
old_channel s k A h =
    let r = and_then_some (λ (x : ChannelValue). x.asked) (slice_get s.channels k) A h in
    let below : k < length s.channels = slice_get_within s.channels k r.0 r.1 in
    elim (cases_Bool (eqb k (length s.channels))) [
      | inl same ↦ let e : k ≡ length s.channels = eqb-true k (length s.channels) same in absurd (omega arith)
      | inr other ↦ other
    ]

-- what a positioned channel has received since goes on by what it receives
abbrev GoesOn : Event → ℕ → Since → Step → Type 0
GoesOn e k since x = since_after e x.0 since k ≡ since k ++ on_channel k e (accepted_entries e x.0)

nothing_new : (b : Bool) (xs : List Entry) → xs ≡ xs ++ cond b [] []
nothing_new true xs = sym (append-nil xs)
nothing_new false xs = sym (append-nil xs)

received_by : (k d : ℕ) (since : Since) (entry : Entry) (b : Bool) → eqb d k ≡ b → cond (eqb k d) (since d ++ entry ∷ []) (since k) ≡ since k ++ cond b (entry ∷ []) []
received_by k d since entry true e =
    let same : d ≡ k = eqb-true d k e in
    ap (λ c. cond c (since d ++ entry ∷ []) (since k)) (eq-eqb k d (sym same)) ∙ ap (λ (n : ℕ). since n ++ entry ∷ []) same
received_by k d since entry false e = ap (λ c. cond c (since d ++ entry ∷ []) (since k)) (eqb_swap d k e) ∙ sym (append-nil (since k))

module _ (site : Site) (s : State) (since : Since) (k : ℕ) (A : Gtids) (asked : asked_with s k ≡ Some A) where
  open_goes_on : (name : List ℕ) (preserve : Bool) → GoesOn (OpenChannel name preserve) k since (open_channel name preserve s)
  open_goes_on name preserve =
      on_test (GoesOn (OpenChannel name preserve) k since) (list_any (λ (c : ChannelValue). same_name c.name name) s.channels) _ _
      (λ e. sym (append-nil (since k)))
      (λ e. on_test (GoesOn (OpenChannel name preserve) k since) (nat_le 256 (length s.channels)) _ _
      (λ g. sym (append-nil (since k)))
      (λ g. ap (λ b. cond b [] (since k)) (old_channel s k A asked) ∙ sym (append-nil (since k))))

  position_goes_on : (d : ℕ) → is_position k (Position d) ≡ false → GoesOn (Position d) k since (position_on d s)
  position_goes_on d other =
      on_option (GoesOn (Position d) k since) (λ channel. (Ask (ask s channel), with_channel s d (record channel { asked = Some (ask s channel) }))) (slice_get s.channels d) _
      (λ e. sym (append-nil (since k)))
      (λ ch e. ap (λ b. cond b [] (since k)) (eqb_swap d k other) ∙ sym (append-nil (since k)))

  receive_goes_on : (d : ℕ) (entry : Entry) → GoesOn (Receive d entry) k since (receive site d entry s)
  receive_goes_on d entry =
      on_option (GoesOn (Receive d entry) k since) _ (slice_get s.channels d) _
      (λ e. nothing_new (eqb d k) (since k))
      (λ ch e. on_option (GoesOn (Receive d entry) k since) _ ch.asked _
      (λ n. nothing_new (eqb d k) (since k))
      (λ B a. on_option (GoesOn (Receive d entry) k since) (λ fault. (NotInSchema fault, s)) (misfit site.schema entry.txn) _
      (λ n. on_test (GoesOn (Receive d entry) k since) (is_full ch) _ _
      (λ m. nothing_new (eqb d k) (since k))
      (λ m. received_by k d since entry (eqb d k) refl))
      (λ fault n. nothing_new (eqb d k) (since k))))

  pub goes_on : (e : Event) → is_position k e ≡ false → GoesOn e k since (step site s e)
  goes_on (OpenChannel name preserve) other = open_goes_on name preserve
  goes_on (Position d) other = position_goes_on d other
  goes_on (Receive d entry) other = receive_goes_on d entry
  goes_on (Take seat d p) other = sym (append-nil (since k))
  goes_on (Commit seat) other = sym (append-nil (since k))
  goes_on (Rollback seat) other = sym (append-nil (since k))
  goes_on (Restart d) other = sym (append-nil (since k))
  goes_on (Local t) other = sym (append-nil (since k))
  goes_on (Purge n) other = sym (append-nil (since k))
  goes_on Look other = sym (append-nil (since k))

-- ---- the phases of a channel

-- These are a prefix of what a journal sends to one that asks with this set, and the journal is of the kind T.
pub record WasSentBy (T : JournalValue → Type 0) (ask : Gtids) (entries : List Entry) : Type 0 where
  pub journal : JournalValue
  pub own : Option ℕ
  pub rest : List Entry
  pub is : T journal
  pub front : sent journal ask own ≡ Ok (entries ++ rest)

-- it was positioned, and has received a prefix of what is sent; the rest comes
pub record Runs (T : JournalValue → Type 0) (site : Site) (s : State) (since : Since) (rest : List Event) (k : ℕ) : Type 0 where
  pub journal : JournalValue
  pub own : Option ℕ
  pub ask : Gtids
  pub is : T journal
  pub asked : asked_with s k ≡ Some ask
  pub comes : sent journal ask own ≡ Ok (since k ++ received_on k site s rest)
  pub once : list_all (λ e. not (is_position k e)) rest ≡ true

-- it is to be served such a journal
abbrev pub Waits : (JournalValue → Type 0) → Site → State → List Event → ℕ → Type 0
Waits T site s rest k = (journal : JournalValue) × T journal × WasServedOnce site s rest k journal

-- it waits for its Position, or was positioned, or receives nothing more
abbrev pub Phase : (JournalValue → Type 0) → Site → State → Since → List Event → ℕ → Type 0
Phase T site s since rest k = Waits T site s rest k ⊎ (Runs T site s since rest k ⊎ (received_on k site s rest ≡ []))

none_before : (xs ys : List Entry) → xs ++ ys ≡ [] → (xs ≡ []) × (ys ≡ [])
none_before [] ys e = (refl, e)
none_before (x ∷ xs) ys e = cc

abbrev asking : State → ℕ → Option ChannelValue → Step
asking s k o = option_map_or (λ channel. (Ask (ask s channel), with_channel s k (record channel { asked = Some (ask s channel) }))) o (NoChannel, s)

pub set_there : (xs : List ChannelValue) (i : ℕ) (x v : ChannelValue) → slice_get xs i ≡ Some x → slice_get (slice_set xs i v) i ≡ Some v
set_there [] i x v e = none_some x e
set_there (y ∷ xs) zero x v e = refl
set_there (y ∷ xs) (suc i) x v e = set_there xs i x v e

pub same_ask : (A B : Gtids) → Ask A ≡ Ask B → A ≡ B
same_ask A B e = cc

-- after a Position that was answered, the channel has asked with that set
asked_after_by : (s : State) (k : ℕ) (A : Gtids) (o : Option ChannelValue) → slice_get s.channels k ≡ o → (asking s k o).0 ≡ Ask A → asked_with (asking s k o).1 k ≡ Some A
asked_after_by s k A None e h = cc
asked_after_by s k A (Some ch) e h =
    ap (option_and_then (λ (x : ChannelValue). x.asked)) (set_there s.channels k ch (record ch { asked = Some (ask s ch) }) e) ∙ ap Some (same_ask (ask s ch) A h)

asked_after : (site : Site) (s : State) (k : ℕ) (A : Gtids) → (step site s (Position k)).0 ≡ Ask A → asked_with (step site s (Position k)).1 k ≡ Some A
asked_after site s k A h = asked_after_by s k A (slice_get s.channels k) refl h

since_asked : (k : ℕ) (since : Since) (r : Reply) (A : Gtids) → r ≡ Ask A → since_after (Position k) r since k ≡ []
since_asked k since r A e = ap (λ x. since_after (Position k) x since k) e ∙ ap (λ b. cond b [] (since k)) (eq-eqb k k refl)

module _ (T : JournalValue → Type 0) (site : Site) (s : State) (since : Since) (e : Event) (es : List Event) (k : ℕ) where
  abbrev s' : State
  s' = (step site s e).1

  abbrev since' : Since
  since' = since_after e (step site s e).0 since

  waits_on : (x : Event) (xs before later : List Event) → x ∷ xs ≡ before ++ Position k ∷ later → ((x ≡ Position k) × (xs ≡ later) × (before ≡ [])) ⊎ ((rest : List Event) × (before ≡ x ∷ rest) × (xs ≡ rest ++ Position k ∷ later))
  waits_on x xs [] later e = inl (cc, cc, refl)
  waits_on x xs (y ∷ ys) later e = let a : x ≡ y = cc in let b : xs ≡ ys ++ Position k ∷ later = cc in inr (ys, (λ i. sym a i ∷ ys), b)

  idle_next : received_on k site s (e ∷ es) ≡ [] → received_on k site s' es ≡ []
  idle_next h = (none_before (on_channel k e (accepted_entries e (step site s e).0)) (received_on k site s' es) h).1

  runs_next : Runs T site s since (e ∷ es) k → Runs T site s' since' es k
  runs_next r =
      let once = and_parts (not (is_position k e)) (list_all (λ x. not (is_position k x)) es) r.once in
      let other = not-true (is_position k e) once.0 in
      record {
        journal = r.journal;
        own = r.own;
        ask = r.ask;
        is = r.is;
        asked = (step_asks site s e).asks k r.ask other r.asked;
        comes = r.comes ∙ ap Ok (sym (append_assoc (since k) (on_channel k e (accepted_entries e (step site s e).0)) (received_on k site s' es)) ∙ ap (λ xs. xs ++ received_on k site s' es) (sym (goes_on site s since k r.ask r.asked e other)));
        once = once.1;
      }

  waits_next : Waits T site s (e ∷ es) k → Phase T site s' since' es k
  waits_next w = elim (waits_on e es w.2.served.before w.2.served.later w.2.served.parts) [
    | inl here ↦ inr (inl (starts w here.0 here.1 here.2))
    | inr later ↦ inl (
      w.0,
      w.1,
      record {
        served = record {
          own = w.2.served.own;
          before = later.0;
          later = w.2.served.later;
          ask = w.2.served.ask;
          all = w.2.served.all;
          parts = later.2;
          nothing_before = idle_at later.0 (ap (received_on k site s) (sym later.1) ∙ w.2.served.nothing_before);
          asked = ap (λ xs. (step site (after site s xs) (Position k)).0) (sym later.1) ∙ w.2.served.asked;
          all_sent = w.2.served.all_sent;
          all_received = ap (λ xs. received_on k site (step site (after site s xs) (Position k)).1 w.2.served.later) (sym later.1) ∙ w.2.served.all_received;
        };
        once = w.2.once;
      },
    )
  ]
    where
      idle_at : (rest : List Event) → received_on k site s (e ∷ rest) ≡ [] → received_on k site s' rest ≡ []
      idle_at rest h = (none_before (on_channel k e (accepted_entries e (step site s e).0)) (received_on k site s' rest) h).1

      starts : (w : Waits T site s (e ∷ es) k) → e ≡ Position k → es ≡ w.2.served.later → w.2.served.before ≡ [] → Runs T site s' since' es k
      starts w is later none =
          let asked : (step site s (Position k)).0 ≡ Ask w.2.served.ask = ap (λ xs. (step site (after site s xs) (Position k)).0) (sym none) ∙ w.2.served.asked in
          let all : received_on k site (step site s (Position k)).1 w.2.served.later ≡ w.2.served.all = ap (λ xs. received_on k site (step site (after site s xs) (Position k)).1 w.2.served.later) (sym none) ∙ w.2.served.all_received in
          let P : Event → Type 0 = λ x. Runs T site (step site s x).1 (since_after x (step site s x).0 since) es k in
          subst P (sym is) (record {
            journal = w.0;
            own = w.2.served.own;
            ask = w.2.served.ask;
            is = w.1;
            asked = asked_after site s k w.2.served.ask asked;
            comes = w.2.served.all_sent ∙ ap Ok (sym all ∙ ((λ i. received_on k site (step site s (Position k)).1 (sym later i)) ∙ ap (λ xs. xs ++ received_on k site (step site s (Position k)).1 es) (sym (since_asked k since (step site s (Position k)).0 w.2.served.ask asked))));
            once = ap (list_all (λ x. not (is_position k x))) later ∙ w.2.once;
          })

  pub phase_next : Phase T site s since (e ∷ es) k → Phase T site s' since' es k
  phase_next (inl w) = waits_next w
  phase_next (inr (inl r)) = inr (inl (runs_next r))
  phase_next (inr (inr h)) = inr (inr (idle_next h))

-- ---- each step

received_now : (c : ℕ) (entry : Entry) (xs : List Entry) → cond (eqb c c) (entry ∷ []) [] ++ xs ≡ entry ∷ xs
received_now c entry xs = ap (λ b. cond b (entry ∷ []) [] ++ xs) (eq-eqb c c refl)

not_nothing : {A : Type 0} (entry : Entry) (xs : List Entry) → entry ∷ xs ≡ [] → A
not_nothing entry xs e = cc

-- a received entry was sent
pub receive_sent : (T : JournalValue → Type 0) (site : Site) (s : State) (since : Since) (c : ℕ) (entry : Entry) (es : List Event) (p : ℕ) → (step site s (Receive c entry)).0 ≡ Received p → Phase T site s since (Receive c entry ∷ es) c
    → (ask : Gtids) → asked_with s c ≡ Some ask → WasSentBy T ask (since c ++ entry ∷ [])
receive_sent T site s since c entry es p is phase ask asked =
    let s' = (step site s (Receive c entry)).1 in
    let now : (rest : List Event) → received_on c site s (Receive c entry ∷ rest) ≡ entry ∷ received_on c site s' rest = λ rest.
    ap (λ r. on_channel c (Receive c entry) (accepted_entries (Receive c entry) r) ++ received_on c site s' rest) is ∙ received_now c entry (received_on c site s' rest) in
    by now phase
  where
    by : ((rest : List Event) → received_on c site s (Receive c entry ∷ rest) ≡ entry ∷ received_on c site (step site s (Receive c entry)).1 rest) → Phase T site s since (Receive c entry ∷ es) c → WasSentBy T ask (since c ++ entry ∷ [])
    by now (inl w) = waits w.2.served.before w.2.served.parts w.2.served.nothing_before
      where
        waits : (before : List Event) → Receive c entry ∷ es ≡ before ++ Position c ∷ w.2.served.later → received_on c site s before ≡ [] → WasSentBy T ask (since c ++ entry ∷ [])
        waits [] parts none = cc
        waits (x ∷ before) parts none =
            let same : Receive c entry ≡ x = cc in
            not_nothing entry (received_on c site (step site s (Receive c entry)).1 before) (sym (now before) ∙ (ap (λ y. received_on c site s (y ∷ before)) same ∙ none))
    by now (inr (inl r)) =
        let same : r.ask ≡ ask = same_Some r.ask ask (sym r.asked ∙ asked) in
        record {
          journal = r.journal;
          own = r.own;
          rest = received_on c site (step site s (Receive c entry)).1 es;
          is = r.is;
          front = ap (λ A. sent r.journal A r.own) (sym same) ∙ (r.comes ∙ ap Ok (ap (λ xs. since c ++ xs) (now es) ∙ sym (append_assoc (since c) (entry ∷ []) (received_on c site (step site s (Receive c entry)).1 es))));
        }
    by now (inr (inr h)) = not_nothing entry (received_on c site (step site s (Receive c entry)).1 es) (sym (now es) ∙ h)

step_faithful : (world : OrderedWorld) (site : Site) (s : State) (since : Since) (e : Event) (es : List Event) → IsNoLocalCommit e (step site s e).0 → ((k : ℕ) → Phase (IsFaithful world) site s since (e ∷ es) k) → IsFaithfulStep world site s since e (step site s e).0
step_faithful world site s since (OpenChannel name preserve) es none phases = tt
step_faithful world site s since (Position c) es none phases = tt
step_faithful world site s since (Receive c entry) es none phases = by (step site s (Receive c entry)).0 refl
  where
    by : (r : Reply) → (step site s (Receive c entry)).0 ≡ r → IsFaithfulStep world site s since (Receive c entry) r
    by (Received p) is = λ ask asked. let w = receive_sent (IsFaithful world) site s since c entry es p is (phases c) ask asked in record { journal = w.journal; own = w.own; rest = w.rest; faithful = w.is; front = w.front }
    by other is = tt
step_faithful world site s since (Take seat c p) es none phases = tt
step_faithful world site s since (Commit seat) es none phases = tt
step_faithful world site s since (Rollback seat) es none phases = tt
step_faithful world site s since (Restart c) es none phases = tt
step_faithful world site s since (Local t) es none phases = by (step site s (Local t)).0 none
  where
    by : (r : Reply) → IsNoLocalCommit (Local t) r → IsFaithfulStep world site s since (Local t) r
    by (Committed g) never = absurd never
    by other none = tt
step_faithful world site s since (Purge n) es none phases = tt
step_faithful world site s since Look es none phases = tt

run_faithful : (world : OrderedWorld) (site : Site) (events : List Event) (s : State) (since : Since) → NoLocalCommits site s events → ((k : ℕ) → Phase (IsFaithful world) site s since events k) → IsFaithfulFrom world site s since events
run_faithful world site [] s since none phases = tt
run_faithful world site (e ∷ es) s since none phases = (
  step_faithful world site s since e es none.0 phases,
  run_faithful world site es (step site s e).1 (since_after e (step site s e).0 since) none.1 (λ k. phase_next (IsFaithful world) site s since e es k (phases k)),
)

pub served_is_faithful : ServedIsFaithful
served_is_faithful world site s events none served = run_faithful world site events s (λ c. []) none (λ k. elim (served k) [ inl w ↦ inl w | inr h ↦ inr (inr h) ])
