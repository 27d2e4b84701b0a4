-- What the nodes of a network know of GTIDs: each was committed by Local at the node of its source, in turn.
use Rattle.std.proofs.Common.{◌≡◌, ◌≢◌, ℕ, Bool, true, false, ◌||◌, ◌⊎◌, inl, inr, List, [], ◌∷◌, ◌++◌, take, drop, Option, Some, Ok, Err, refl, sym, ap, ◌∙◌, subst, eqb}
use Rattle.std.specs.Prelude.{slice_get, slice_set}
use Rattle.std.specs.Option.{option_map_or}
use Rattle.std.specs.FinSet as set
use Rattle.std.proofs.lemmas.Bool.{cases_Bool, or_cases, or_left, or_right, eqb-true, eq-eqb}
use Rattle.std.proofs.lemmas.List.{append-nil, take-append-drop}
use Rattle.std.proofs.lemmas.Option.{same_Some}
use Rattle.lemmas.proofs.Tests.{not_both}
use Rattle.lemmas.proofs.Lists.{get_set_cases, set_there}
use Rattle.lemmas.proofs.SameGtid.{same_itself, same_is_equal}
use Rattle.gtid_text.specs.declared.Gtid.{Gtid}
use Rattle.gtid_text.specs.Gtids.{same_gtid}
use Rattle.gtid_set.specs.Sets.{Gtids}
use Rattle.journal.specs.declared.Entry.{Entry}
use Rattle.journal.specs.Journals.{JournalValue}
use Rattle.replica_core.specs.declared.event.Event.{Event}
use Rattle.replica_core.specs.declared.event.Event.TheVariants as event
use Rattle.replica_core.specs.declared.event.Reply.{Reply}
use Rattle.replica_core.specs.declared.event.Reply.TheVariants as reply
use Rattle.replica_core.specs.State.{State}
use Rattle.replica_core.specs.Machine as machine
use Rattle.history.proofs.Covering.{has, covered, in_insert, entries_append}
use Rattle.history.proofs.Keeping.{covered_push, covered_purged}
use Rattle.convergence.specs.Served.{accepted_entries}
use Rattle.convergence.proofs.Invariant.{IsIn}
use Rattle.convergence.proofs.Growing.{Known}
use Rattle.network.specs.declared.event.NetworkEvent.{NetworkEvent}
use Rattle.network.specs.declared.event.NetworkReply.TheVariants.{NoNode}
use Rattle.network.specs.Nodes.{Node}
use Rattle.network.specs.Machine.{Making, Decision, is_for_network, come, decide, make_at, make, step}
use Rattle.network.specs.Sending.{is_entry}
use Rattle.network.specs.Runs.{local_at, local_of}
use Rattle.network.proofs.Prefixes.{IsOnce, found_parts, Parts}
use Rattle.network.proofs.Moving.{Journals, step_moves}
use Rattle.convergence.proofs.Permuting.{entry_is_in}
use Rattle.network.proofs.Contents.{once_push}
use Rattle.network.proofs.Numbering.{step_learns}
use Rattle.network.proofs.Nodes.{set_other}
use Rattle.network.proofs.Deciding.{IsAct, IsPosition, IsReceive, IsMade, decides}

-- ---- the executed set is what the own journal has a record of

abbrev pub IsRecorded : State → Type 0
IsRecorded s = (g : Gtid) → has s.journal g ≡ set.contains s.executed g

pub recorded_after : (s s' : State) → Journals s s' → IsRecorded s → IsRecorded s'
recorded_after s s' (inl m) h g =
    ap (λ (j : JournalValue). has j g) m.journal ∙ (h g ∙ ap (λ (x : Gtids). set.contains x g) (sym m.executed))
recorded_after s s' (inr (inl m)) h g =
    ap (λ (j : JournalValue). has j g) m.journal
    ∙ (covered_push s.journal.previous s.journal.entries m.entry.gtid m.entry.txn g
    ∙ (ap (λ b. same_gtid g m.entry.gtid || b) (h g)
    ∙ (sym (in_insert s.executed m.entry.gtid g) ∙ ap (λ (x : Gtids). set.contains x g) (sym m.executed))))
recorded_after s s' (inr (inr m)) h g =
    ap (λ (j : JournalValue). has j g) m.journal
    ∙ (covered_purged s.journal.previous (take m.count s.journal.entries) (drop m.count s.journal.entries) g
    ∙ (ap (λ es. covered s.journal.previous es g) (take-append-drop m.count s.journal.entries)
    ∙ (h g ∙ ap (λ (x : Gtids). set.contains x g) (sym m.executed))))

-- ---- all nodes

-- the node of a GTID's source has executed it
pub record Origin (nodes : List Node) (g : Gtid) : Type 0 where
  pub i : ℕ
  pub node : Node
  pub at : slice_get nodes i ≡ Some node
  pub own : node.replica.site.own ≡ g.source
  pub done : set.contains node.replica.state.executed g ≡ true

-- these were committed by Local so far
pub record Numbers (nodes : List Node) (L : List Entry) : Type 0 where
  pub sites : (i k : ℕ) (a b : Node) → slice_get nodes i ≡ Some a → slice_get nodes k ≡ Some b → a.replica.site.own ≡ b.replica.site.own → i ≡ k
  pub recorded : (i : ℕ) (node : Node) → slice_get nodes i ≡ Some node → IsRecorded node.replica.state
  pub known : (i : ℕ) (node : Node) → slice_get nodes i ≡ Some node → (g : Gtid) → Known node.replica.state g → is_entry L g ≡ true
  pub origin : (g : Gtid) → is_entry L g ≡ true → Origin nodes g
  pub once : IsOnce L

-- a number of the own source that is known at a node is executed there
pub own_done : (nodes : List Node) (L : List Entry) → Numbers nodes L → (i : ℕ) (node : Node) → slice_get nodes i ≡ Some node → (g : Gtid) → is_entry L g ≡ true → g.source ≡ node.replica.site.own → set.contains node.replica.state.executed g ≡ true
own_done nodes L n i node at g there mine =
    let o = n.origin g there in
    let same : o.i ≡ i = n.sites o.i i o.node node o.at at (o.own ∙ mine) in
    let is : o.node ≡ node = same_Some o.node node (sym o.at ∙ (ap (slice_get nodes) same ∙ at)) in
    subst (λ (x : Node). set.contains x.replica.state.executed g ≡ true) is o.done

pub record SameSite (nodes : List Node) (i : ℕ) (a : Node) : Type 0 where
  pub node : Node
  pub at : slice_get nodes i ≡ Some node
  pub own : a.replica.site.own ≡ node.replica.site.own

once_after : (L added : List Entry) → IsOnce L → (added ≡ []) ⊎ ((x : Entry) × (added ≡ x ∷ [])) → ((x : Entry) → IsIn x added → is_entry L x.gtid ≡ false) → IsOnce (L ++ added)
once_after L added once (inl none) new = subst (λ es. IsOnce (L ++ es)) (sym none) (subst IsOnce (sym (append-nil L)) once)
once_after L added once (inr one) new = subst (λ es. IsOnce (L ++ es)) (sym one.1) (once_push L one.0 once (new one.0 (subst (IsIn one.0) (sym one.1) (inl refl))))

-- a node makes an event, in which it accepts what was committed somewhere
pub numbers_make : (nodes : List Node) (L : List Entry) → Numbers nodes L → (m : Making) (node : Node) → slice_get nodes m.node ≡ Some node
    → ((g : Gtid) → is_entry (accepted_entries m.event (machine.step node.replica.site node.replica.state m.event).0) g ≡ true → is_entry L g ≡ true)
    → Numbers (make_at nodes m node).1 (L ++ local_at m.event node)
numbers_make nodes L n m node at accepts =
    let j = m.node in
    let site = node.replica.site in
    let s = node.replica.state in
    let l = step_learns site s m.event in
    let added : List Entry = local_at m.event node in
    let new_node : Node = record { replica = record { site = site; state = (machine.step site s m.event).1 }; sources = m.sources } in
    let after : List Node = slice_set nodes j new_node in
    let left : (g : Gtid) → is_entry L g ≡ true → is_entry (L ++ added) g ≡ true = λ g h. entries_append L added g ∙ or_left (is_entry L g) (is_entry added g) h in
    let right : (g : Gtid) → is_entry added g ≡ true → is_entry (L ++ added) g ≡ true = λ g h. entries_append L added g ∙ or_right (is_entry L g) (is_entry added g) h in
    let parts : (g : Gtid) → is_entry (L ++ added) g ≡ true → (is_entry L g ≡ true) ⊎ (is_entry added g ≡ true) = λ g h. or_cases (is_entry L g) (is_entry added g) (sym (entries_append L added g) ∙ h) in
    let before : (i : ℕ) (a : Node) → slice_get after i ≡ Some a → SameSite nodes i a = λ i a e.
    elim (get_set_cases nodes j new_node i a e) [
      | inl here ↦ record { node = node; at = ap (slice_get nodes) here.0 ∙ at; own = ap (λ (x : Node). x.replica.site.own) (sym here.1) }
      | inr other ↦ record { node = a; at = other.1; own = refl }
    ] in
    let new : (x : Entry) → IsIn x added → is_entry L x.gtid ≡ false = λ x i.
    let next = l.next x i in
    elim (cases_Bool (is_entry L x.gtid)) [
      | inl there ↦ not_both (set.contains s.executed x.gtid) (own_done nodes L n j node at x.gtid there next.source) next.new
      | inr none ↦ none
    ] in
    record {
      sites = λ i k a b p q same.
          let u = before i a p in
          let v = before k b q in
          n.sites i k u.node v.node u.at v.at (sym u.own ∙ (same ∙ v.own));
      recorded = λ i a e. elim (get_set_cases nodes j new_node i a e) [
        | inl here ↦ subst (λ (x : Node). IsRecorded x.replica.state) here.1 (recorded_after s (machine.step site s m.event).1 (step_moves site s m.event).journals (n.recorded j node at))
        | inr other ↦ n.recorded i a other.1
      ];
      known = λ i a e g k. elim (get_set_cases nodes j new_node i a e) [
        | inl here ↦ elim (l.origin g (subst (λ (x : Node). Known x.replica.state g) (sym here.1) k)) [
          | inl was ↦ left g (n.known j node at g was)
          | inr came ↦ elim came [ inl received ↦ left g (accepts g received) | inr mine ↦ right g mine ]
        ]
        | inr other ↦ left g (n.known i a other.1 g k)
      ];
      origin = λ g h. elim (parts g h) [
        | inl old ↦
            let o = n.origin g old in
            elim (cases_Bool (eqb o.i j)) [
              | inl same ↦
                  let is_j : o.i ≡ j = is_number o.i j same in
                  let is : o.node ≡ node = same_Some o.node node (sym o.at ∙ (ap (slice_get nodes) is_j ∙ at)) in
                  record {
                    i = j;
                    node = new_node;
                    at = set_there nodes j node new_node at;
                    own = ap (λ (x : Node). x.replica.site.own) (sym is) ∙ o.own;
                    done = l.kept g (ap (λ (x : Node). set.contains x.replica.state.executed g) (sym is) ∙ o.done);
                  }
              | inr other ↦ record {
                i = o.i;
                node = o.node;
                at = set_other nodes o.i j o.node new_node (differs o.i j other) o.at;
                own = o.own;
                done = o.done;
              }
            ]
        | inr mine ↦
            let x = entry_is_in added g mine in
            record {
              i = j;
              node = new_node;
              at = set_there nodes j node new_node at;
              own = sym (ap (λ (h : Gtid). h.source) x.2 ∙ (l.next x.0 x.1).source);
              done = ap (set.contains (machine.step site s m.event).1.executed) x.2 ∙ l.put x.0 x.1;
            }
      ];
      once = once_after L added n.once l.alone new;
    }
  where
    is_number : (a b : ℕ) → eqb a b ≡ true → a ≡ b
    is_number a b e = eqb-true a b e

    differs : (a b : ℕ) → eqb a b ≡ false → a ≢ b
    differs a b n e = not_both (eqb a b) (eq-eqb a b e) n

-- ---- what is accepted

accepted_own : (e : Event) (r : Reply) (g : Gtid) → is_for_network e ≡ false → {A : Type 0} → is_entry (accepted_entries e r) g ≡ true → A
accepted_own (event.OpenChannel name preserve) r g f h = cc
accepted_own (event.Position c) r g f h = cc
accepted_own (event.Receive c entry) r g f h = cc
accepted_own (event.Take seat c p) r g f h = cc
accepted_own (event.Commit seat) r g f h = cc
accepted_own (event.Rollback seat) r g f h = cc
accepted_own (event.Restart c) r g f h = cc
accepted_own (event.Local t) r g f h = cc
accepted_own (event.Purge k) r g f h = cc
accepted_own event.Look r g f h = cc

accepted_entry : (c : ℕ) (e : Entry) (r : Reply) (g : Gtid) → is_entry (accepted_entries (event.Receive c e) r) g ≡ true → g ≡ e.gtid
accepted_entry c e (reply.Received p) g h = elim (or_cases (same_gtid g e.gtid) false h) [ inl same ↦ same_is_equal g e.gtid same | inr none ↦ cc ]
accepted_entry c e r g h = cc

-- an entry that is found is one
found_entry : (come : Gtid → Bool) (es : List Entry) (e : Entry) → Parts come es e → is_entry es e.gtid ≡ true
found_entry come es e p =
    ap (λ xs. is_entry xs e.gtid) p.parts
    ∙ (entries_append p.before (e ∷ p.after) e.gtid ∙ or_right (is_entry p.before e.gtid) (is_entry (e ∷ p.after) e.gtid) (or_left (same_gtid e.gtid e.gtid) (is_entry p.after e.gtid) (same_itself e.gtid)))

pub accepts_known : (nodes : List Node) (L : List Entry) → Numbers nodes L → (m : Making) (node : Node) → IsAct nodes m node ⊎ IsPosition nodes m node ⊎ IsReceive nodes m node → (r : Reply) (g : Gtid) → is_entry (accepted_entries m.event r) g ≡ true → is_entry L g ≡ true
accepts_known nodes L n m node (inl a) r g h = accepted_own m.event r g a.own h
accepts_known nodes L n m node (inr (inl p)) r g h = none_accepted (ap (λ e. is_entry (accepted_entries e r) g) (sym p.event) ∙ h)
  where
    none_accepted : is_entry (accepted_entries (event.Position p.c) r) g ≡ true → is_entry L g ≡ true
    none_accepted e = cc
accepts_known nodes L n m node (inr (inr q)) r g h =
    let is_e : g ≡ q.entry.gtid = accepted_entry q.c q.entry r g (ap (λ e. is_entry (accepted_entries e r) g) (sym q.event) ∙ h) in
    let j = q.source.replica.state.journal in
    let there : is_entry j.entries q.entry.gtid ≡ true = found_entry (set.contains (come q.asked q.channel)) j.entries q.entry (found_parts (set.contains (come q.asked q.channel)) j.entries q.entry q.next) in
    let done : set.contains q.source.replica.state.executed q.entry.gtid ≡ true = sym (n.recorded q.k q.source q.from q.entry.gtid) ∙ or_right (set.contains j.previous q.entry.gtid) (is_entry j.entries q.entry.gtid) there in
    ap (is_entry L) is_e ∙ n.known q.k q.source q.from q.entry.gtid (inl done)

-- ---- one event of the network

pub numbers_decided : (nodes : List Node) (L : List Entry) → Numbers nodes L → (d : Decision) → ((m : Making) → d ≡ Ok m → IsMade nodes m) → Numbers (make nodes d).1 (L ++ local_of nodes d)
numbers_decided nodes L n (Err r) made = subst (Numbers nodes) (sym (append-nil L)) n
numbers_decided nodes L n (Ok m) made =
    let is = made m refl in
    subst (λ (o : Option Node). Numbers (option_map_or (make_at nodes m) o (NoNode, nodes)).1 (L ++ option_map_or (local_at m.event) o [])) (sym is.at)
    (numbers_make nodes L n m is.node is.at (λ g h. accepts_known nodes L n m is.node is.one _ g h))

pub numbers_step : (nodes : List Node) (L : List Entry) → Numbers nodes L → (e : NetworkEvent) → Numbers (step nodes e).1 (L ++ local_of nodes (decide nodes e))
numbers_step nodes L n e = numbers_decided nodes L n (decide nodes e) (decides nodes e).made
