-- What a node commits was committed by Local, at some node.
use Rattle.std.proofs.Common.{◌≡◌, ℕ, Bool, true, false, cond, ◌⊎◌, inl, inr, List, [], ◌∷◌, ◌++◌, Option, Some, Ok, Err, refl, sym, ap, ◌∙◌, subst, append_assoc, eqb}
use Rattle.std.specs.Prelude.{slice_get, slice_set}
use Rattle.std.specs.Option.{option_map_or}
use Rattle.std.specs.FinSet as set
use Rattle.std.proofs.lemmas.Bool.{eqb-true, eq-eqb}
use Rattle.std.proofs.lemmas.List.{append-nil}
use Rattle.std.proofs.lemmas.Option.{same_Some}
use Rattle.lemmas.proofs.Lists.{get_set_cases, set_there}
use Rattle.lemmas.proofs.Tests.{not_both}
use Rattle.journal.specs.declared.Entry.{Entry}
use Rattle.replica_core.specs.declared.event.Event.{Event}
use Rattle.replica_core.specs.declared.event.Event.TheVariants as event
use Rattle.replica_core.specs.declared.event.Reply.{Reply}
use Rattle.replica_core.specs.declared.event.Reply.TheVariants as reply
use Rattle.replica_core.specs.State.{State, Site}
use Rattle.replica_core.specs.Machine as machine
use Rattle.convergence.specs.Served.{accepted_entries, committed_here}
use Rattle.convergence.proofs.Invariant.{IsIn}
use Rattle.network.specs.declared.event.NetworkEvent.{NetworkEvent}
use Rattle.network.specs.declared.event.NetworkReply.TheVariants.{NoNode}
use Rattle.network.specs.Nodes.{Node}
use Rattle.network.specs.Machine.{Making, Decision, is_for_network, come, decide, make_at, make, step}
use Rattle.network.specs.Runs.{made_at, events_at, local_at, local_of, locals}
use Rattle.network.proofs.Contents.{in_append, in_left, in_right}
use Rattle.network.proofs.Prefixes.{found_parts}
use Rattle.network.proofs.Nodes.{set_other}
use Rattle.network.proofs.Deciding.{IsAct, IsPosition, IsReceive, IsMade, decides}
use Rattle.convergence.specs.Logs.{committed, log}
use Rattle.convergence.proofs.Waiting.{Waits}
use Rattle.convergence.proofs.Telling.{Commits}
use Rattle.convergence.proofs.Moving.{step_tells}

-- what waits at a node or is left in its journal was committed by Local
pub record Relays (L : List Entry) (s : State) : Type 0 where
  pub waiting : (x : Entry) → Waits s.channels x → IsIn x L
  pub kept : (x : Entry) → IsIn x s.journal.entries → IsIn x L

abbrev pub AllRelay : List Node → List Entry → Type 0
AllRelay nodes L = (i : ℕ) (node : Node) → slice_get nodes i ≡ Some node → Relays L node.replica.state

relays_more : (L more : List Entry) (s : State) → Relays L s → Relays (L ++ more) s
relays_more L more s h = record { waiting = λ x w. in_left L more x (h.waiting x w); kept = λ x i. in_left L more x (h.kept x i) }

-- ---- what one event commits

one_of : (x e : Entry) → IsIn x (e ∷ []) → e ≡ x
one_of x e (inl same) = same
one_of x e (inr none) = absurd none

module _ (L : List Entry) (site : Site) (s : State) (e : Event) (h : Relays L s) where
  abbrev s' : State
  s' = (machine.step site s e).1

  abbrev r : Reply
  r = (machine.step site s e).0

  abbrev mine : List Entry
  mine = committed_here e (machine.step site s e).0

  entry_made : (m : Commits site s s' e r (committed s e r)) → IsIn m.entry (L ++ mine)
  entry_made m = elim m.origin [ inl waited ↦ in_left L mine m.entry (h.waiting m.entry waited) | inr own ↦ in_right L mine m.entry own.0 ]

  pub commits_made : (x : Entry) → IsIn x (committed s e r) → IsIn x (L ++ mine)
  commits_made x i = elim (step_tells site s e).made [
    | inl m ↦ absurd (subst (IsIn x) m.none i)
    | inr m ↦ subst (λ (y : Entry). IsIn y (L ++ mine)) (one_of x m.entry (subst (IsIn x) m.one i)) (entry_made m)
  ]

  journal_made : (x : Entry) → IsIn x s'.journal.entries → IsIn x (L ++ mine)
  journal_made x i = elim (step_tells site s e).made [
    | inl m ↦ in_left L mine x (h.kept x (subst (IsIn x) m.journal (in_right m.purged s'.journal.entries x i)))
    | inr m ↦ elim (in_append s.journal.entries (m.entry ∷ []) x (subst (IsIn x) m.journal i)) [
      | inl old ↦ in_left L mine x (h.kept x old)
      | inr last ↦ subst (λ (y : Entry). IsIn y (L ++ mine)) (one_of x m.entry last) (entry_made m)
    ]
  ]

  pub relays_step : ((x : Entry) → IsIn x (accepted_entries e r) → IsIn x L) → Relays (L ++ mine) s'
  relays_step accepts = record {
    waiting = λ x w. in_left L mine x (elim ((step_tells site s e).came x w).from [ inl before ↦ h.waiting x before | inr came ↦ accepts x came.0 ]);
    kept = journal_made;
  }

-- ---- what is accepted

accepted_own : (e : Event) (r : Reply) (x : Entry) → is_for_network e ≡ false → {A : Type 0} → IsIn x (accepted_entries e r) → A
accepted_own (event.OpenChannel name preserve) r x f i = absurd i
accepted_own (event.Position c) r x f i = absurd i
accepted_own (event.Receive c entry) r x f i = cc
accepted_own (event.Take seat c p) r x f i = absurd i
accepted_own (event.Commit seat) r x f i = absurd i
accepted_own (event.Rollback seat) r x f i = absurd i
accepted_own (event.Restart c) r x f i = absurd i
accepted_own (event.Local t) r x f i = absurd i
accepted_own (event.Purge k) r x f i = absurd i
accepted_own event.Look r x f i = absurd i

accepted_entry : (c : ℕ) (e : Entry) (r : Reply) (x : Entry) → IsIn x (accepted_entries (event.Receive c e) r) → e ≡ x
accepted_entry c e (reply.Received p) x i = one_of x e i
accepted_entry c e r x i = absurd i

at_middle : (xs ys : List Entry) (x : Entry) → IsIn x (xs ++ x ∷ ys)
at_middle xs ys x = in_right xs (x ∷ ys) x (inl refl)

accepts : (nodes : List Node) (L : List Entry) → AllRelay nodes L → (m : Making) (node : Node) → IsAct nodes m node ⊎ IsPosition nodes m node ⊎ IsReceive nodes m node → (r : Reply) (x : Entry) → IsIn x (accepted_entries m.event r) → IsIn x L
accepts nodes L h m node (inl a) r x i = accepted_own m.event r x a.own i
accepts nodes L h m node (inr (inl p)) r x i = none_accepted (subst (λ e. IsIn x (accepted_entries e r)) p.event i)
  where
    none_accepted : IsIn x (accepted_entries (event.Position p.c) r) → IsIn x L
    none_accepted j = absurd j
accepts nodes L h m node (inr (inr q)) r x i =
    let j = q.source.replica.state.journal in
    let p = found_parts (set.contains (come q.asked q.channel)) j.entries q.entry q.next in
    let there : IsIn q.entry j.entries = subst (IsIn q.entry) (sym p.parts) (at_middle p.before p.after q.entry) in
    let is : q.entry ≡ x = accepted_entry q.c q.entry r x (subst (λ e. IsIn x (accepted_entries e r)) q.event i) in
    subst (λ (y : Entry). IsIn y L) is ((h q.k q.source q.from).kept q.entry there)

-- ---- one event of the network

relay_make : (nodes : List Node) (L : List Entry) → AllRelay nodes L → (m : Making) (node : Node) → slice_get nodes m.node ≡ Some node
    → ((r : Reply) (x : Entry) → IsIn x (accepted_entries m.event r) → IsIn x L) → AllRelay (make_at nodes m node).1 (L ++ local_at m.event node)
relay_make nodes L h m node at got i a e =
    let new_node : Node = record { replica = record { site = node.replica.site; state = (machine.step node.replica.site node.replica.state m.event).1 }; sources = m.sources } in
    elim (get_set_cases nodes m.node new_node i a e) [
      | inl here ↦ subst (λ (x : Node). Relays (L ++ local_at m.event node) x.replica.state) here.1
          (relays_step L node.replica.site node.replica.state m.event (h m.node node at) (got (machine.step node.replica.site node.replica.state m.event).0))
      | inr other ↦ relays_more L (local_at m.event node) a.replica.state (h i a other.1)
    ]

relay_decided : (nodes : List Node) (L : List Entry) → AllRelay nodes L → (d : Decision) → ((m : Making) → d ≡ Ok m → IsMade nodes m) → AllRelay (make nodes d).1 (L ++ local_of nodes d)
relay_decided nodes L h (Err r) made = subst (AllRelay nodes) (sym (append-nil L)) h
relay_decided nodes L h (Ok m) made =
    let is = made m refl in
    subst (λ (o : Option Node). AllRelay (option_map_or (make_at nodes m) o (NoNode, nodes)).1 (L ++ option_map_or (local_at m.event) o [])) (sym is.at)
    (relay_make nodes L h m is.node is.at (accepts nodes L h m is.node is.one))

-- ---- what a node commits when the network decides

pub log_append : (site : Site) (s : State) (xs ys : List Event) → log site s (xs ++ ys) ≡ log site s xs ++ log site (machine.after site s xs) ys
log_append site s [] ys = refl
log_append site s (x ∷ xs) ys =
    ap (λ (es : List Entry). committed s x (machine.step site s x).0 ++ es) (log_append site (machine.step site s x).1 xs ys)
    ∙ sym (append_assoc (committed s x (machine.step site s x).0) (log site (machine.step site s x).1 xs) (log site (machine.after site (machine.step site s x).1 xs) ys))

-- a node after a decision
record Next (nodes : List Node) (L : List Entry) (d : Decision) (i : ℕ) (node : Node) : Type 0 where
  next : Node
  at : slice_get (make nodes d).1 i ≡ Some next
  site : next.replica.site ≡ node.replica.site
  state : next.replica.state ≡ machine.after node.replica.site node.replica.state (made_at i d)
  made : (x : Entry) → IsIn x (log node.replica.site node.replica.state (made_at i d)) → IsIn x (L ++ local_of nodes d)

next_made : (nodes : List Node) (L : List Entry) → AllRelay nodes L → (m : Making) (own : Node) → slice_get nodes m.node ≡ Some own → (i : ℕ) (node : Node) → slice_get nodes i ≡ Some node
    → (b : Bool) → eqb m.node i ≡ b
    → (next : Node) × (slice_get (make_at nodes m own).1 i ≡ Some next) × (next.replica.site ≡ node.replica.site)
    × (next.replica.state ≡ machine.after node.replica.site node.replica.state (cond b (m.event ∷ []) []))
    × ((x : Entry) → IsIn x (log node.replica.site node.replica.state (cond b (m.event ∷ []) [])) → IsIn x (L ++ local_at m.event own))
next_made nodes L h m own there i node at false b =
    let new_node : Node = record { replica = record { site = own.replica.site; state = (machine.step own.replica.site own.replica.state m.event).1 }; sources = m.sources } in
    (node, set_other nodes i m.node node new_node (λ same. not_both (eqb m.node i) (eq-eqb m.node i (sym same)) b) at, refl, refl, λ x j. absurd j)
next_made nodes L h m own there i node at true b =
    let is_i : m.node ≡ i = eqb-true m.node i b in
    let is : own ≡ node = same_Some own node (sym there ∙ (ap (slice_get nodes) is_i ∙ at)) in
    let site = node.replica.site in
    let s = node.replica.state in
    let new_of : Node → Node = λ n. record { replica = record { site = n.replica.site; state = (machine.step n.replica.site n.replica.state m.event).1 }; sources = m.sources } in (
      new_of own,
      subst (λ n. slice_get (slice_set nodes m.node (new_of own)) n ≡ Some (new_of own)) is_i (set_there nodes m.node own (new_of own) there),
      ap (λ (n : Node). n.replica.site) is,
      ap (λ (n : Node). (new_of n).replica.state) is,
      λ x j. subst (λ (n : Node). IsIn x (L ++ local_at m.event n)) (sym is)
          (commits_made L site s m.event (h i node at) x (subst (IsIn x) (append-nil (committed s m.event (machine.step site s m.event).0)) j)),
    )

next_decided : (nodes : List Node) (L : List Entry) → AllRelay nodes L → (d : Decision) → ((m : Making) → d ≡ Ok m → IsMade nodes m) → (i : ℕ) (node : Node) → slice_get nodes i ≡ Some node → Next nodes L d i node
next_decided nodes L h (Err r) made i node at = record { next = node; at = at; site = refl; state = refl; made = λ x j. absurd j }
next_decided nodes L h (Ok m) made i node at =
    let is = made m refl in
    let n = next_made nodes L h m is.node is.at i node at (eqb m.node i) refl in
    record {
      next = n.0;
      at = ap (λ (o : Option Node). slice_get (option_map_or (make_at nodes m) o (NoNode, nodes)).1 i) is.at ∙ n.1;
      site = n.2;
      state = n.3;
      made = λ x j. subst (λ (o : Option Node). IsIn x (L ++ option_map_or (local_at m.event) o [])) (sym is.at) (n.4 x j);
    }

-- ---- runs

pub logs_relay : (events : List NetworkEvent) (nodes : List Node) (L : List Entry) → AllRelay nodes L → (i : ℕ) (node : Node) → slice_get nodes i ≡ Some node
    → (x : Entry) → IsIn x (log node.replica.site node.replica.state (events_at i nodes events)) → IsIn x (L ++ locals nodes events)
logs_relay [] nodes L h i node at x j = absurd j
logs_relay (e ∷ es) nodes L h i node at x j =
    let d = decide nodes e in
    let more = local_of nodes d in
    let rest = locals (step nodes e).1 es in
    let n = next_decided nodes L h d (decides nodes e).made i node at in
    let later = events_at i (step nodes e).1 es in
    let whole : (L ++ more) ++ rest ≡ L ++ (more ++ rest) = append_assoc L more rest in
    subst (IsIn x) whole
    (elim (in_append (log node.replica.site node.replica.state (made_at i d)) (log node.replica.site (machine.after node.replica.site node.replica.state (made_at i d)) later) x
    (subst (IsIn x) (log_append node.replica.site node.replica.state (made_at i d) later) j)) [
      | inl first ↦ in_left (L ++ more) rest x (n.made x first)
      | inr second ↦ logs_relay es (step nodes e).1 (L ++ more) (relay_decided nodes L h d (decides nodes e).made) i n.next n.at x
          (subst (λ (site : Site). IsIn x (log site n.next.replica.state later)) (sym n.site)
          (subst (λ (s : State). IsIn x (log node.replica.site s later)) (sym n.state) second))
    ])
