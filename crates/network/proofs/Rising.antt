-- The numbers that are committed by Local: those of each source are from 1 on without a gap, and rise in time.
use Rattle.std.proofs.Common.{◌≡◌, ℕ, ◌<◌, true, false, ◌⊎◌, inl, inr, List, [], ◌∷◌, ◌++◌, map, Option, Some, None, Ok, Err, refl, sym, ap, ◌∙◌, subst, append_assoc, cond, eqb, ◌≢◌}
use Rattle.std.specs.Prelude.{slice_get}
use Rattle.std.specs.Option.{option_map_or}
use Rattle.std.specs.FinSet as set
use Rattle.std.proofs.lemmas.Bool.{cases_Bool, or_left, eqb-true, eq-eqb}
use Rattle.std.proofs.lemmas.List.{append-nil}
use Rattle.std.proofs.lemmas.Option.{same_Some}
use Rattle.lemmas.proofs.Tests.{not_both}
use Rattle.lemmas.proofs.Lists.{set_there}
use Rattle.lemmas.proofs.Numbers.{lt_eq_gt}
use Rattle.gtid_text.specs.declared.Gtid.{Gtid}
use Rattle.gtid_set.specs.Sets.{gtid}
use Rattle.journal.specs.declared.Entry.{Entry}
use Rattle.replica_core.specs.declared.event.Event.{Event}
use Rattle.replica_core.specs.State.{State, Site}
use Rattle.replica_core.specs.Machine as machine
use Rattle.history.specs.World as ordered
use Rattle.history.specs.World.{Precedes}
use Rattle.history.proofs.Lists.{before_either}
use Rattle.history.proofs.Covering.{entry_of, entries_append}
use Rattle.convergence.specs.Served.{committed_here}
use Rattle.convergence.proofs.Invariant.{IsIn}
use Rattle.convergence.proofs.Permuting.{is_in_entry}
use Rattle.network.specs.declared.event.NetworkEvent.{NetworkEvent}
use Rattle.network.specs.declared.event.NetworkReply.TheVariants.{NoNode}
use Rattle.network.specs.Nodes.{Node}
use Rattle.network.specs.Machine.{Making, Decision, decide, make_at, make, step}
use Rattle.network.specs.Sending.{is_entry}
use Rattle.network.specs.Runs.{pair, made_at, events_at, local_at, local_of, locals}
use Rattle.network.proofs.Contents.{in_append, pair_from, pairs_append}
use Rattle.network.proofs.Numbering.{IsNext, step_learns}
use Rattle.network.proofs.Nodes.{set_other}
use Rattle.network.proofs.Deciding.{IsMade, decides}
use Rattle.network.proofs.Numbers.{Numbers, own_done, numbers_step}

-- ---- one more number

pub record AreCounted (L : List Entry) : Type 0 where
  pub positive : (x : Entry) → IsIn x L → 0 < x.gtid.number
  -- with a number, each smaller one of its source is there
  pub down : (x : Entry) (m : ℕ) → IsIn x L → 0 < m → m < x.gtid.number → is_entry L (gtid x.gtid.source m) ≡ true
  -- of two of one source the first has the smaller number
  pub rising : (e f : ordered.Entry) → Precedes (map pair L) e f → e.0.source ≡ f.0.source → e.0.number < f.0.number

pub counted_none : AreCounted []
counted_none = record { positive = λ x i. absurd i; down = λ x m i. absurd i; rising = λ e f p. absurd p }

same_numbers : (g h : Gtid) → g.source ≡ h.source → g.number ≡ h.number → g ≡ h
same_numbers g h s n = λ i. record { source = s i; number = n i }

-- an earlier number of the same source is smaller than one that is new and before which none is left out
less_than_new : (L : List Entry) (x e : Entry) → AreCounted L → 0 < x.gtid.number → is_entry L x.gtid ≡ false → IsIn e L → e.gtid.source ≡ x.gtid.source → e.gtid.number < x.gtid.number
less_than_new L x e c positive new i same = elim (lt_eq_gt e.gtid.number x.gtid.number) [
  | inl less ↦ less
  | inr other ↦ elim other [
    | inl equal ↦ not_both (is_entry L x.gtid) (ap (is_entry L) (sym (same_numbers e.gtid x.gtid same equal)) ∙ is_in_entry L e i) new
    | inr greater ↦ not_both (is_entry L x.gtid)
        (ap (is_entry L) (same_numbers x.gtid (gtid e.gtid.source x.gtid.number) (sym same) refl) ∙ c.down e x.gtid.number i positive greater) new
  ]
]

pub counted_push : (L : List Entry) (x : Entry) → AreCounted L → 0 < x.gtid.number → ((m : ℕ) → 0 < m → m < x.gtid.number → is_entry L (gtid x.gtid.source m) ≡ true) → is_entry L x.gtid ≡ false → AreCounted (L ++ x ∷ [])
counted_push L x c positive smaller new = record {
  positive = λ y i. elim (in_append L (x ∷ []) y i) [
    | inl old ↦ c.positive y old
    | inr last ↦ elim last [ inl is ↦ subst (λ (z : Entry). 0 < z.gtid.number) is positive | inr none ↦ absurd none ]
  ];
  down = λ y m i low high. left (gtid y.gtid.source m) (elim (in_append L (x ∷ []) y i) [
    | inl old ↦ c.down y m old low high
    | inr last ↦ elim last [
      | inl is ↦ ap (λ (z : Entry). is_entry L (gtid z.gtid.source m)) (sym is) ∙ smaller m low (subst (λ (z : Entry). m < z.gtid.number) (sym is) high)
      | inr none ↦ absurd none
    ]
  ]);
  rising = λ e f p same. by e f same (before_either (map pair L) (pair x ∷ []) e f (subst (λ es. Precedes es e f) (pairs_append L (x ∷ [])) p));
}
  where
    left : (g : Gtid) → is_entry L g ≡ true → is_entry (L ++ x ∷ []) g ≡ true
    left g h = entries_append L (x ∷ []) g ∙ or_left (is_entry L g) (is_entry (x ∷ []) g) h

    last : (e f : ordered.Entry) → e.0.source ≡ f.0.source → ordered.IsIn e (map pair L) → ordered.IsIn f (pair x ∷ []) → e.0.number < f.0.number
    last e f same i (inl is) =
        subst (λ (z : ordered.Entry). e.0.number < z.0.number) is
        (less_than_new L x (entry_of e.0 e.1) c positive new (pair_from L e i) (same ∙ ap (λ (z : ordered.Entry). z.0.source) (sym is)))
    last e f same i (inr none) = absurd none

    by : (e f : ordered.Entry) → e.0.source ≡ f.0.source → Precedes (map pair L) e f ⊎ ((ordered.IsIn e (map pair L) × ordered.IsIn f (pair x ∷ [])) ⊎ Precedes (pair x ∷ []) e f) → e.0.number < f.0.number
    by e f same (inl old) = c.rising e f old same
    by e f same (inr (inl across)) = last e f same across.0 across.1
    by e f same (inr (inr (inl alone))) = absurd alone.1
    by e f same (inr (inr (inr none))) = absurd none

-- ---- one event

-- what a node commits by Local when it makes an event
counted_at : (nodes : List Node) (L : List Entry) → Numbers nodes L → AreCounted L → (j : ℕ) (node : Node) → slice_get nodes j ≡ Some node → (x : Entry) → IsNext node.replica.site node.replica.state x → AreCounted (L ++ x ∷ [])
counted_at nodes L n c j node at x next = counted_push L x c next.positive
    (λ m low high. ap (λ (source : ℕ). is_entry L (gtid source m)) next.source ∙ n.known j node at (gtid node.replica.site.own m) (next.smaller m low high))
    (elim (cases_Bool (is_entry L x.gtid)) [
      | inl there ↦ not_both (set.contains node.replica.state.executed x.gtid) (own_done nodes L n j node at x.gtid there next.source) next.new
      | inr none ↦ none
    ])

counted_made : (nodes : List Node) (L : List Entry) → Numbers nodes L → AreCounted L → (m : Making) (node : Node) → slice_get nodes m.node ≡ Some node → AreCounted (L ++ local_at m.event node)
counted_made nodes L n c m node at =
    let l = step_learns node.replica.site node.replica.state m.event in
    elim l.alone [
      | inl none ↦ subst (λ es. AreCounted (L ++ es)) (sym none) (subst AreCounted (sym (append-nil L)) c)
      | inr one ↦ subst (λ es. AreCounted (L ++ es)) (sym one.1) (counted_at nodes L n c m.node node at one.0 (l.next one.0 (subst (IsIn one.0) (sym one.1) (inl refl))))
    ]

counted_by : (nodes : List Node) (L : List Entry) → Numbers nodes L → AreCounted L → (m : Making) (o : Option Node) → slice_get nodes m.node ≡ o → AreCounted (L ++ option_map_or (local_at m.event) o [])
counted_by nodes L n c m None at = subst AreCounted (sym (append-nil L)) c
counted_by nodes L n c m (Some node) at = counted_made nodes L n c m node at

counted_decided : (nodes : List Node) (L : List Entry) → Numbers nodes L → AreCounted L → (d : Decision) → AreCounted (L ++ local_of nodes d)
counted_decided nodes L n c (Err r) = subst AreCounted (sym (append-nil L)) c
counted_decided nodes L n c (Ok m) = counted_by nodes L n c m (slice_get nodes m.node) refl

-- ---- runs

pub counted_run : (events : List NetworkEvent) (nodes : List Node) (L : List Entry) → Numbers nodes L → AreCounted L → AreCounted (L ++ locals nodes events)
counted_run [] nodes L n c = subst AreCounted (sym (append-nil L)) c
counted_run (e ∷ es) nodes L n c =
    subst AreCounted (append_assoc L (local_of nodes (decide nodes e)) (locals (step nodes e).1 es))
    (counted_run es (step nodes e).1 (L ++ local_of nodes (decide nodes e)) (numbers_step nodes L n e) (counted_decided nodes L n c (decide nodes e)))

-- ---- the numbers that a node has executed

-- before a number is committed by Local, each smaller one of the own source is executed
abbrev pub AreFilled : Site → State → List Event → Type 0
AreFilled site s [] = Unit {0}
AreFilled site s (e ∷ es) =
    ((x : Entry) → IsIn x (committed_here e (machine.step site s e).0) → (m : ℕ) → 0 < m → m < x.gtid.number → set.contains s.executed (gtid site.own m) ≡ true)
    × AreFilled site (machine.step site s e).1 es

filled_here : (nodes : List Node) (L : List Entry) → Numbers nodes L → (j : ℕ) (node : Node) → slice_get nodes j ≡ Some node → (event : Event) (x : Entry) → IsIn x (local_at event node) → (m : ℕ) → 0 < m → m < x.gtid.number
    → set.contains node.replica.state.executed (gtid node.replica.site.own m) ≡ true
filled_here nodes L n j node at event x i m low high =
    let g : Gtid = gtid node.replica.site.own m in
    own_done nodes L n j node at g (n.known j node at g (((step_learns node.replica.site node.replica.state event).next x i).smaller m low high)) refl

filled_made : (nodes : List Node) (L : List Entry) → Numbers nodes L → (m : Making) (maker : Node) → slice_get nodes m.node ≡ Some maker → (later : List Event) (i : ℕ) (node : Node) → slice_get nodes i ≡ Some node
    → ((a : Node) → slice_get (make_at nodes m maker).1 i ≡ Some a → AreFilled a.replica.site a.replica.state later) → AreFilled node.replica.site node.replica.state (made_at i (Ok m) ++ later)
filled_made nodes L n m maker there later i node at rest =
    let j = m.node in
    let site = maker.replica.site in
    let s = maker.replica.state in
    let new_node : Node = record { replica = record { site = site; state = (machine.step site s m.event).1 }; sources = m.sources } in
    elim (cases_Bool (eqb j i)) [
      | inl same ↦
          let is_i : j ≡ i = eqb-true j i same in
          let is_node : maker ≡ node = same_Some maker node (sym there ∙ (ap (slice_get nodes) is_i ∙ at)) in
          subst (λ (es : List Event). AreFilled node.replica.site node.replica.state (es ++ later)) (sym (ap (λ b. cond b (m.event ∷ []) []) same))
          (subst (λ (x : Node). AreFilled x.replica.site x.replica.state (m.event ∷ later)) is_node
          (filled_here nodes L n j maker there m.event, rest new_node (ap (slice_get (make_at nodes m maker).1) (sym is_i) ∙ set_there nodes j maker new_node there)))
      | inr other ↦
          let apart : i ≢ j = λ e. not_both (eqb j i) (eq-eqb j i (sym e)) other in
          subst (λ (es : List Event). AreFilled node.replica.site node.replica.state (es ++ later)) (sym (ap (λ b. cond b (m.event ∷ []) []) other))
          (rest node (set_other nodes i j node new_node apart at))
    ]

filled_decided : (nodes : List Node) (L : List Entry) → Numbers nodes L → (d : Decision) → ((m : Making) → d ≡ Ok m → IsMade nodes m) → (later : List Event) (i : ℕ) (node : Node) → slice_get nodes i ≡ Some node
    → ((a : Node) → slice_get (make nodes d).1 i ≡ Some a → AreFilled a.replica.site a.replica.state later) → AreFilled node.replica.site node.replica.state (made_at i d ++ later)
filled_decided nodes L n (Err r) is later i node at rest = rest node at
filled_decided nodes L n (Ok m) is later i node at rest =
    let made = is m refl in
    filled_made nodes L n m made.node made.at later i node at
    (subst (λ (o : Option Node). (a : Node) → slice_get (option_map_or (make_at nodes m) o (NoNode, nodes)).1 i ≡ Some a → AreFilled a.replica.site a.replica.state later) made.at rest)

pub filled_run : (events : List NetworkEvent) (nodes : List Node) (L : List Entry) → Numbers nodes L → (i : ℕ) (node : Node) → slice_get nodes i ≡ Some node → AreFilled node.replica.site node.replica.state (events_at i nodes events)
filled_run [] nodes L n i node at = tt
filled_run (e ∷ es) nodes L n i node at =
    filled_decided nodes L n (decide nodes e) (decides nodes e).made (events_at i (step nodes e).1 es) i node at
    (λ a there. filled_run es (step nodes e).1 (L ++ local_of nodes (decide nodes e)) (numbers_step nodes L n e) i a there)
