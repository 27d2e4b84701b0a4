-- What holds at each node and for each channel after every event of a network, and the runs of the nodes.
use Rattle.std.proofs.Common.{◌≡◌, ◌≢◌, ℕ, false, cond, ◌⊎◌, inl, inr, List, [], ◌∷◌, ◌++◌, map, Option, Some, Ok, Err, refl, sym, ap, ◌∙◌, subst, eqb, append_assoc}
use Rattle.std.specs.Prelude.{slice_get, slice_set, IsOk}
use Rattle.std.specs.Option.{option_map_or}
use Rattle.std.specs.FinMap as finmap
use Rattle.std.proofs.lemmas.Bool.{cases_Bool, eqb-true, eq-eqb}
use Rattle.std.proofs.lemmas.List.{append-nil}
use Rattle.std.proofs.lemmas.Option.{same_Some}
use Rattle.gtid_text.specs.declared.Gtid.{Gtid}
use Rattle.std.specs.FinSet as set
use Rattle.lemmas.proofs.Tests.{not_both}
use Rattle.lemmas.proofs.Lists.{get_set_cases, set_there}
use Rattle.rows.specs.Apply.{Rows, apply}
use Rattle.rows.specs.declared.schema.Table.{Table}
use Rattle.history.proofs.Covering.{entry_of}
use Rattle.journal.specs.declared.Entry.{Entry}
use Rattle.apply_channel.specs.Channels.{ChannelValue}
use Rattle.replica_core.specs.declared.event.Event.{Event}
use Rattle.replica_core.specs.declared.event.Event.TheVariants as event
use Rattle.replica_core.specs.State.{State, Site}
use Rattle.replica_core.specs.Machine as machine
use Rattle.history.specs.World.{OrderedWorld, is_opened, apply_all, Precedes, AreDistinct, AreGtidsSound}
use Rattle.history.specs.World as ordered
use Rattle.history.proofs.Placing.{all_in}
use Rattle.history.proofs.Ordering.{second_in}
use Rattle.history.proofs.Closing.{is_ok_of}
use Rattle.convergence.specs.Faithful.{Since, since_after, IsFaithfulStep, IsFaithfulFrom}
use Rattle.convergence.proofs.Invariant.{IsIn, Invariant}
use Rattle.convergence.proofs.Steps.{step_keeps}
use Rattle.network.specs.declared.event.NetworkEvent.{NetworkEvent}
use Rattle.network.specs.declared.event.NetworkReply.TheVariants.{NoNode}
use Rattle.network.specs.Nodes.{Node, Sources}
use Rattle.network.specs.Machine.{Making, Decision, decide, make_at, make, after}
use Rattle.network.specs.Runs.{made_at, events_at, local_at, local_of, locals, IsInTurnAt, IsInTurn, AreInTurn, pair}
use Rattle.network.proofs.Moving.{step_moves}
use Rattle.network.proofs.Applying.{still_applies}
use Rattle.network.proofs.Prefixes.{IsOnce}
use Rattle.convergence.proofs.Permuting.{in_place}
use Rattle.network.proofs.Contents.{in_left, in_right, pair_from, pairs_append, pairs_distinct, content_there}
use Rattle.network.proofs.Numbering.{IsInOrder, step_learns, own_is_faithful}
use Rattle.network.proofs.Nodes.{changed, changed_here, changed_other, set_other, all_after}
use Rattle.network.proofs.Deciding.{IsAct, IsPosition, IsReceive, IsMade, decides}
use Rattle.network.proofs.Numbers.{Numbers, numbers_make, accepts_known}
use Rattle.network.proofs.Logs.{IsLog, log_grows}
use Rattle.network.proofs.Links.{Histories, Link, AreLinked, link_more, own_links, position_links, Next, next_entry, receive_links}

-- the whole history of each node's own journal
abbrev pub histories : List Node → (ℕ → List Entry) → Histories
histories nodes purged k log = (source : Node) × (slice_get nodes k ≡ Some source) × (purged k ++ source.replica.state.journal.entries ≡ log)

pub record Holds (world : OrderedWorld) (nodes : List Node) (since : ℕ → Since) (purged : ℕ → List Entry) : Type 0 where
  pub schema : (i : ℕ) (node : Node) → slice_get nodes i ≡ Some node → node.replica.site.schema ≡ world.schema
  pub invariant : (i : ℕ) (node : Node) → slice_get nodes i ≡ Some node → Invariant world node.replica.state (since i)
  pub logs : (i : ℕ) (node : Node) → slice_get nodes i ≡ Some node → IsLog world (purged i) node.replica.state.journal
  pub links : (i : ℕ) (node : Node) → slice_get nodes i ≡ Some node → AreLinked node.replica.state.channels (since i) node.sources (histories nodes purged)

-- ---- one event that a node makes

-- what is asked of the event of a node
pub record Makes (world : OrderedWorld) (site : Site) (s : State) (since : Since) (history : Histories) (event : Event) (sources : Sources) : Type 0 where
  pub links : AreLinked (machine.step site s event).1.channels (since_after event (machine.step site s event).0 since) sources history
  pub faithful : IsFaithfulStep world site s since event (machine.step site s event).0

invariant_kept : (world : OrderedWorld) (site : Site) (s : State) (since : Since) (e : Event) → AreGtidsSound world → site.schema ≡ world.schema → Invariant world s since
    → IsFaithfulStep world site s since e (machine.step site s e).0 → Invariant world (machine.step site s e).1 (since_after e (machine.step site s e).0 since)
invariant_kept world site s since e sound same inv f =
    let here : record { own = site.own; schema = world.schema } ≡ site = λ i. record { own = site.own; schema = (sym same) i } in
    subst (λ (x : Site). IsFaithfulStep world x s since e (machine.step x s e).0 → Invariant world (machine.step x s e).1 (since_after e (machine.step x s e).0 since)) here
    (λ g. ((step_keeps world site.own sound s since inv e).keeps g).0) f

relink : (channels : List ChannelValue) (since : Since) (sources : Sources) (old new : Histories) → ((k : ℕ) (log : List Entry) → new k log → (was : List Entry) × (more : List Entry) × old k was × (was ++ more ≡ log)) → AreLinked channels since sources old → AreLinked channels since sources new
relink channels since sources old new grown linked c ch A k log i a r h =
    let g = grown k log h in
    subst (Link A (since c) ch) g.3 (link_more A (since c) ch g.0 g.1 (linked c ch A k g.0 i a r g.2))

pub record HeldAfter (world : OrderedWorld) (nodes : List Node) (since : ℕ → Since) : Type 0 where
  pub purged : ℕ → List Entry
  pub holds : Holds world nodes since purged

pub holds_make : (world : OrderedWorld) (nodes : List Node) (since : ℕ → Since) (purged : ℕ → List Entry) → AreGtidsSound world → ((g : Gtid) → is_opened world g ≡ false) → Holds world nodes since purged
    → (m : Making) (node : Node) → slice_get nodes m.node ≡ Some node → Makes world node.replica.site node.replica.state (since m.node) (histories nodes purged) m.event m.sources
    → HeldAfter world (make_at nodes m node).1 (changed m.node (since_after m.event (machine.step node.replica.site node.replica.state m.event).0 (since m.node)) since)
holds_make world nodes since purged sound unopened h m node at makes =
    let j = m.node in
    let site = node.replica.site in
    let s = node.replica.state in
    let s' = (machine.step site s m.event).1 in
    let since' : Since = since_after m.event (machine.step site s m.event).0 (since j) in
    let new_node : Node = record { replica = record { site = site; state = s' }; sources = m.sources } in
    let nodes' : List Node = slice_set nodes j new_node in
    let inv : Invariant world s' since' = invariant_kept world site s (since j) m.event sound (h.schema j node at) (h.invariant j node at) makes.faithful in
    let g = log_grows world (purged j) s s' (since j) since' unopened (step_moves site s m.event).journals (h.invariant j node at) inv (h.logs j node at) in
    let purged' : ℕ → List Entry = changed j g.purged' purged in
    let grown : (k : ℕ) (log : List Entry) → histories nodes' purged' k log → (was : List Entry) × (more : List Entry) × histories nodes purged k was × (was ++ more ≡ log) = λ k log w.
    elim (get_set_cases nodes j new_node k w.0 w.1) [
      | inl here ↦ (
        purged j ++ s.journal.entries,
        g.more,
        (node, ap (slice_get nodes) here.0 ∙ at, ap (λ n. purged n ++ s.journal.entries) here.0),
        sym g.grows ∙ (ap (λ es. es ++ s'.journal.entries) (sym (ap (changed j g.purged' purged) here.0 ∙ changed_here j g.purged' purged))
            ∙ (ap (λ (x : Node). purged' k ++ x.replica.state.journal.entries) here.1 ∙ w.2)),
      )
      | inr other ↦ (
        purged k ++ w.0.replica.state.journal.entries,
        [],
        (w.0, other.1, refl),
        append-nil (purged k ++ w.0.replica.state.journal.entries) ∙ (ap (λ es. es ++ w.0.replica.state.journal.entries) (sym (changed_other k j g.purged' purged other.0)) ∙ w.2),
      )
    ] in
    record {
      purged = purged';
      holds = record {
        schema = λ i a e. elim (get_set_cases nodes j new_node i a e) [
          | inl here ↦ ap (λ (x : Node). x.replica.site.schema) (sym here.1) ∙ h.schema j node at
          | inr other ↦ h.schema i a other.1
        ];
        invariant = all_after (λ i f a. Invariant world a.replica.state f) nodes j new_node since' since h.invariant inv;
        logs = all_after (λ i f a. IsLog world f a.replica.state.journal) nodes j new_node g.purged' purged h.logs g.log;
        links = all_after (λ i f a. AreLinked a.replica.state.channels f a.sources (histories nodes' purged')) nodes j new_node since' since
            (λ i a e. relink a.replica.state.channels (since i) a.sources (histories nodes purged) (histories nodes' purged') grown (h.links i a e))
            (relink s'.channels since' m.sources (histories nodes purged) (histories nodes' purged') grown makes.links);
      };
    }

-- ---- what commits here is in turn

-- in a list without doubles, what comes before an entry is of the list's part before it
before_of : (xs ys : List ordered.Entry) (e x : ordered.Entry) → AreDistinct (xs ++ x ∷ ys) → Precedes (xs ++ x ∷ ys) e x → ordered.IsIn e xs
before_of [] ys e x d (inl p) = absurd (all_in (λ (y : ordered.Entry). x.0 ≢ y.0) x ys d.0 p.1 refl)
before_of [] ys e x d (inr p) = absurd (all_in (λ (y : ordered.Entry). x.0 ≢ y.0) x ys d.0 (second_in ys e x p) refl)
before_of (a ∷ xs) ys e x d (inl p) = inl p.0
before_of (a ∷ xs) ys e x d (inr p) = inr (before_of xs ys e x d.1 p)

-- The world's order is these transactions and more, and no GTID occurs twice.
pub record IsWhole (world : OrderedWorld) (L more : List Entry) : Type 0 where
  pub order : world.order ≡ map pair (L ++ more)
  pub once : IsOnce (L ++ more)

-- these apply, in order, to the opening rows
abbrev pub Apply : OrderedWorld → List Entry → Type 0
Apply world L = (rows : Rows) × (apply_all world.schema (map pair L) world.opening_rows ≡ Ok rows)

whole_on : (world : OrderedWorld) (L added more : List Entry) → IsWhole world L (added ++ more) → IsWhole world (L ++ added) more
whole_on world L added more w = record {
  order = w.order ∙ ap (map pair) (sym (append_assoc L added more));
  once = subst IsOnce (sym (append_assoc L added more)) w.once;
}

one_committed : (added : List Entry) (x : Entry) → (added ≡ []) ⊎ ((y : Entry) × (added ≡ y ∷ [])) → IsIn x added → added ≡ x ∷ []
one_committed added x (inl none) i = absurd (subst (IsIn x) none i)
one_committed added x (inr one) i = by (subst (IsIn x) one.1 i)
  where
    by : IsIn x (one.0 ∷ []) → added ≡ x ∷ []
    by (inl same) = one.1 ∙ ap (λ (y : Entry). y ∷ []) same
    by (inr none) = absurd none

-- what a node commits by Local is in turn in the world
turn_of : (world : OrderedWorld) (L rest : List Entry) (m : Making) (node : Node) → IsWhole world L (local_at m.event node ++ rest) → IsInTurnAt world.schema L m.event (Some node)
    → (x : Entry) → IsIn x (local_at m.event node) → IsInOrder world node.replica.site node.replica.state x
turn_of world L rest m node w turn x i =
    let added : List Entry = local_at m.event node in
    let only : added ≡ x ∷ [] = one_committed added x (step_learns node.replica.site node.replica.state m.event).alone i in
    let parts : world.order ≡ map pair L ++ pair x ∷ map pair rest = w.order ∙ ap (λ es. map pair (L ++ (es ++ rest))) only ∙ pairs_append L (x ∷ rest) in
    let distinct : AreDistinct (map pair L ++ pair x ∷ map pair rest) = subst AreDistinct (sym w.order ∙ parts) (pairs_distinct (L ++ (added ++ rest)) w.once) in (
      ap (ordered.find x.gtid) w.order ∙ content_there (L ++ (added ++ rest)) x w.once (in_right L (added ++ rest) x (in_left added rest x i)),
      λ h t p shares.
          let before : IsIn (entry_of h t) L = pair_from L (h, t) (before_of (map pair L) (map pair rest) (h, t) (pair x) distinct (subst (λ es. Precedes es (h, t) (pair x)) parts p)) in
          let a = in_place L (entry_of h t) before in
          let b = in_place added x i in
          turn b.0 x b.1 a.0 (entry_of h t) a.1 shares,
    )

-- and with it, all that was committed applies
applies_on : (world : OrderedWorld) (nodes : List Node) (L rest : List Entry) (since : ℕ → Since) (purged : ℕ → List Entry) → Numbers nodes L → Holds world nodes since purged
    → (m : Making) (node : Node) → slice_get nodes m.node ≡ Some node → IsWhole world L (local_at m.event node ++ rest) → IsInTurnAt world.schema L m.event (Some node) → Apply world L → Apply world (L ++ local_at m.event node)
applies_on world nodes L rest since purged n h m node at w turn sofar = by (step_learns node.replica.site node.replica.state m.event).alone
  where
    by : (local_at m.event node ≡ []) ⊎ ((x : Entry) × (local_at m.event node ≡ x ∷ [])) → Apply world (L ++ local_at m.event node)
    by (inl none) = subst (Apply world) (sym (append-nil L) ∙ ap (λ es. L ++ es) (sym none)) sofar
    by (inr one) =
        let x = one.0 in
        let added : List Entry = local_at m.event node in
        let i : IsIn x added = subst (IsIn x) (sym one.1) (inl refl) in
        let next = (step_learns node.replica.site node.replica.state m.event).next x i in
        let b = in_place added x i in
        subst (λ es. Apply world (L ++ es)) (sym one.1)
        (still_applies world L (added ++ rest) (set.contains node.replica.state.executed) node.replica.state.rows sofar.0 next.rows x w.order w.once
        (h.invariant m.node node at).rows
        (λ g done. n.known m.node node at g (inl done))
        (λ e k shares. let a = in_place L e k in turn b.0 x b.1 a.0 e a.1 shares)
        sofar.1 (ap (λ (schema : List Table). apply schema x.txn node.replica.state.rows) (sym (h.schema m.node node at)) ∙ next.applies))

-- ---- the events that are made

made_own : (world : OrderedWorld) (nodes : List Node) (since : ℕ → Since) (purged : ℕ → List Entry) → Holds world nodes since purged
    → (m : Making) (node : Node) → slice_get nodes m.node ≡ Some node → IsAct nodes m node → ((x : Entry) → IsIn x (local_at m.event node) → IsInOrder world node.replica.site node.replica.state x)
    → Makes world node.replica.site node.replica.state (since m.node) (histories nodes purged) m.event m.sources
made_own world nodes since purged h m node at a turn =
    let j = m.node in
    let site = node.replica.site in
    let s = node.replica.state in
    subst (Makes world site s (since j) (histories nodes purged) m.event) (sym a.sources) (record {
      links = (own_links site s (since j) node.sources (histories nodes purged) m.event a.own (h.links j node at)).links;
      faithful = own_is_faithful world site s (since j) m.event a.own turn;
    })

made_receive : (world : OrderedWorld) (nodes : List Node) (since : ℕ → Since) (purged : ℕ → List Entry) → Holds world nodes since purged
    → (m : Making) (node : Node) → slice_get nodes m.node ≡ Some node → (q : IsReceive nodes m node) → Makes world node.replica.site node.replica.state (since m.node) (histories nodes purged) (event.Receive q.c q.entry) node.sources
made_receive world nodes since purged h m node at q =
    let j = m.node in
    let s = node.replica.state in
    let log = purged q.k ++ q.source.replica.state.journal.entries in
    let linked = h.links j node at in
    let next : Next world q.asked (since j q.c) q.entry log =
    next_entry world s (since j) (h.invariant j node at) q.c q.channel q.asked (purged q.k) q.source.replica.state.journal q.entry q.at (h.logs q.k q.source q.from)
    (linked q.c q.channel q.asked q.k log q.at q.with q.reads (q.source, q.from, refl)) q.kept q.next in
    let r = receive_links world node.replica.site s (since j) node.sources (histories nodes purged) q.c q.k q.channel q.asked q.entry q.at q.with q.reads linked
    (λ es w. subst (Next world q.asked (since j q.c) q.entry) (ap (λ (x : Node). purged q.k ++ x.replica.state.journal.entries) (same_Some q.source w.0 (sym q.from ∙ w.1)) ∙ w.2) next)
    next.sent in
    record { links = r.links; faithful = r.faithful }

pub made : (world : OrderedWorld) (nodes : List Node) (since : ℕ → Since) (purged : ℕ → List Entry) → Holds world nodes since purged
    → (m : Making) (node : Node) → slice_get nodes m.node ≡ Some node → IsAct nodes m node ⊎ IsPosition nodes m node ⊎ IsReceive nodes m node → ((x : Entry) → IsIn x (local_at m.event node) → IsInOrder world node.replica.site node.replica.state x)
    → Makes world node.replica.site node.replica.state (since m.node) (histories nodes purged) m.event m.sources
made world nodes since purged h m node at (inl a) there = made_own world nodes since purged h m node at a there
made world nodes since purged h m node at (inr (inl p)) there =
    let P : Event → Sources → Type 0 = Makes world node.replica.site node.replica.state (since m.node) (histories nodes purged) in
    subst (P m.event) (sym p.sources) (subst (λ e. P e (finmap.insert node.sources p.c p.k)) (sym p.event) (record {
      links = (position_links node.replica.state (since m.node) node.sources (histories nodes purged) p.c p.k p.channel p.at (h.links m.node node at)).links;
      faithful = tt;
    }))
made world nodes since purged h m node at (inr (inr q)) there =
    let P : Event → Sources → Type 0 = Makes world node.replica.site node.replica.state (since m.node) (histories nodes purged) in
    subst (P m.event) (sym q.sources) (subst (λ e. P e node.sources) (sym q.event) (made_receive world nodes since purged h m node at q))

-- ---- runs

pub record RunHolds (world : OrderedWorld) (nodes end : List Node) (since : ℕ → Since) (events : ℕ → List Event) : Type 0 where
  pub faithful : (i : ℕ) (node : Node) → slice_get nodes i ≡ Some node → IsFaithfulFrom world node.replica.site node.replica.state (since i) (events i)
  pub since' : ℕ → Since
  pub purged' : ℕ → List Entry
  pub holds : Holds world end since' purged'
  pub applies : IsOk (apply_all world.schema world.order world.opening_rows)

-- what is asked of what is committed by Local from here on
pub record Goes (world : OrderedWorld) (nodes : List Node) (L : List Entry) (events : List NetworkEvent) : Type 0 where
  pub whole : IsWhole world L (locals nodes events)
  pub turns : AreInTurn world.schema L nodes events
  pub sofar : Apply world L

made_run : (world : OrderedWorld) (nodes : List Node) (L : List Entry) (since : ℕ → Since) (purged : ℕ → List Entry) → AreGtidsSound world → ((g : Gtid) → is_opened world g ≡ false) → Numbers nodes L → Holds world nodes since purged → Apply world L
    → (m : Making) (node : Node) → slice_get nodes m.node ≡ Some node → IsAct nodes m node ⊎ IsPosition nodes m node ⊎ IsReceive nodes m node → (es : List NetworkEvent)
    → ((nodes' : List Node) (L' : List Entry) (since' : ℕ → Since) (purged' : ℕ → List Entry) → Numbers nodes' L' → Holds world nodes' since' purged' → Goes world nodes' L' es → RunHolds world nodes' (after nodes' es) since' (λ i. events_at i nodes' es))
    → IsWhole world L (local_at m.event node ++ locals (make_at nodes m node).1 es) → IsInTurnAt world.schema L m.event (Some node) → AreInTurn world.schema (L ++ local_at m.event node) (make_at nodes m node).1 es
    → RunHolds world nodes (after (make_at nodes m node).1 es) since (λ i. made_at i (Ok m) ++ events_at i (make_at nodes m node).1 es)
made_run world nodes L since purged sound unopened n h sofar m node at one es rest whole turn turns =
    let j = m.node in
    let site = node.replica.site in
    let s = node.replica.state in
    let nodes' = (make_at nodes m node).1 in
    let new_node : Node = record { replica = record { site = site; state = (machine.step site s m.event).1 }; sources = m.sources } in
    let since_j : Since = since_after m.event (machine.step site s m.event).0 (since j) in
    let makes = made world nodes since purged h m node at one (turn_of world L (locals nodes' es) m node whole turn) in
    let held = holds_make world nodes since purged sound unopened h m node at makes in
    let n' = numbers_make nodes L n m node at (λ g a. accepts_known nodes L n m node one _ g a) in
    let r = rest nodes' (L ++ local_at m.event node) (changed j since_j since) held.purged n' held.holds (record {
      whole = whole_on world L (local_at m.event node) (locals nodes' es) whole;
      turns = turns;
      sofar = applies_on world nodes L (locals nodes' es) since purged n h m node at whole turn sofar;
    }) in
    let here : IsFaithfulFrom world site s (since j) (m.event ∷ events_at j nodes' es) = (
      makes.faithful,
      subst (λ f. IsFaithfulFrom world site (machine.step site s m.event).1 f (events_at j nodes' es)) (changed_here j since_j since) (r.faithful j new_node (set_there nodes j node new_node at)),
    ) in
    record {
      faithful = λ i a e. elim (cases_Bool (eqb j i)) [
        | inl same ↦
            let is_i : j ≡ i = eqb-true j i same in
            let is_node : node ≡ a = same_Some node a (sym at ∙ (ap (slice_get nodes) is_i ∙ e)) in
            subst (λ (es' : List Event). IsFaithfulFrom world a.replica.site a.replica.state (since i) (es' ++ events_at i nodes' es)) (sym (ap (λ b. cond b (m.event ∷ []) []) same))
            (subst (λ (x : Node). IsFaithfulFrom world x.replica.site x.replica.state (since i) (m.event ∷ events_at i nodes' es)) is_node
            (subst (λ (k : ℕ). IsFaithfulFrom world site s (since k) (m.event ∷ events_at k nodes' es)) is_i here))
        | inr other ↦
            let apart : i ≢ j = λ e. not_both (eqb j i) (eq-eqb j i (sym e)) other in
            subst (λ (es' : List Event). IsFaithfulFrom world a.replica.site a.replica.state (since i) (es' ++ events_at i nodes' es)) (sym (ap (λ b. cond b (m.event ∷ []) []) other))
            (subst (λ f. IsFaithfulFrom world a.replica.site a.replica.state f (events_at i nodes' es)) (changed_other i j since_j since apart) (r.faithful i a (set_other nodes i j a new_node apart e)))
      ];
      since' = r.since';
      purged' = r.purged';
      holds = r.holds;
      applies = r.applies;
    }

decided_run : (world : OrderedWorld) (nodes : List Node) (L : List Entry) (since : ℕ → Since) (purged : ℕ → List Entry) → AreGtidsSound world → ((g : Gtid) → is_opened world g ≡ false) → Numbers nodes L → Holds world nodes since purged → Apply world L
    → (d : Decision) → ((m : Making) → d ≡ Ok m → IsMade nodes m) → (es : List NetworkEvent)
    → ((nodes' : List Node) (L' : List Entry) (since' : ℕ → Since) (purged' : ℕ → List Entry) → Numbers nodes' L' → Holds world nodes' since' purged' → Goes world nodes' L' es → RunHolds world nodes' (after nodes' es) since' (λ i. events_at i nodes' es))
    → IsWhole world L (local_of nodes d ++ locals (make nodes d).1 es) → IsInTurn world.schema L nodes d → AreInTurn world.schema (L ++ local_of nodes d) (make nodes d).1 es
    → RunHolds world nodes (after (make nodes d).1 es) since (λ i. made_at i d ++ events_at i (make nodes d).1 es)
decided_run world nodes L since purged sound unopened n h sofar (Err r) is es rest whole turn turns =
    rest nodes L since purged n h (record { whole = whole; turns = subst (λ es'. AreInTurn world.schema es' nodes es) (append-nil L) turns; sofar = sofar })
decided_run world nodes L since purged sound unopened n h sofar (Ok m) is es rest whole turn turns =
    let made = is m refl in
    let make_of : Option Node → List Node = λ o. (option_map_or (make_at nodes m) o (NoNode, nodes)).1 in
    let local_by : Option Node → List Entry = λ o. option_map_or (local_at m.event) o [] in
    subst (λ (o : Option Node). IsWhole world L (local_by o ++ locals (make_of o) es) → IsInTurnAt world.schema L m.event o → AreInTurn world.schema (L ++ local_by o) (make_of o) es → RunHolds world nodes (after (make_of o) es) since (λ i. made_at i (Ok m) ++ events_at i (make_of o) es)) (sym made.at)
    (made_run world nodes L since purged sound unopened n h sofar m made.node made.at made.one es rest) whole turn turns

pub run_holds : (world : OrderedWorld) → AreGtidsSound world → ((g : Gtid) → is_opened world g ≡ false) → (events : List NetworkEvent) (nodes : List Node) (L : List Entry) (since : ℕ → Since) (purged : ℕ → List Entry) → Numbers nodes L → Holds world nodes since purged
    → Goes world nodes L events → RunHolds world nodes (after nodes events) since (λ i. events_at i nodes events)
run_holds world sound unopened [] nodes L since purged n h goes = record {
  faithful = λ i node e. tt;
  since' = since;
  purged' = purged;
  holds = h;
  applies = is_ok_of (apply_all world.schema world.order world.opening_rows) goes.sofar.0
      (ap (λ es. apply_all world.schema es world.opening_rows) (goes.whole.order ∙ ap (map pair) (append-nil L)) ∙ goes.sofar.1);
}
run_holds world sound unopened (e ∷ es) nodes L since purged n h goes =
    decided_run world nodes L since purged sound unopened n h goes.sofar (decide nodes e) (decides nodes e).made es
    (λ nodes' L' since' purged' n' h' goes'. run_holds world sound unopened es nodes' L' since' purged' n' h' goes') goes.whole goes.turns.0 goes.turns.1
