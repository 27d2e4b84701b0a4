-- The merge theorem for networks.
use Rattle.std.proofs.Common.{◌≡◌, ℕ, zero, suc, true, false, not, ◌||◌, inl, inr, List, [], ◌∷◌, Option, Some, None, Result, Ok, Err, refl, sym, ap, ◌∙◌, subst, eqb, ◌++◌, append_assoc}
use Rattle.std.specs.Prelude.{slice_get}
use Rattle.std.specs.Option.{option_map_or}
use Rattle.std.specs.List.{list_any, AllByRecursion}
use Rattle.std.specs.FinSet as set
use Rattle.std.proofs.lemmas.Bool.{cases_Bool, or_left, or_right, and_parts, not-true, eqb-true, eq-eqb}
use Rattle.std.proofs.lemmas.Option.{same_Some}
use Rattle.gtid_text.specs.declared.Gtid.{Gtid}
use Rattle.gtid_text.specs.Gtids.{gtid_cmp}
use Rattle.gtid_set.specs.Sets.{Gtids}
use Rattle.rows.specs.Apply.{Rows}
use Rattle.rows.specs.declared.change.RowFault.{RowFault}
use Rattle.rows.specs.declared.schema.Table.{Table}
use Rattle.rows.specs.Conflicts.{conflicts}
use Rattle.journal.specs.declared.Entry.{Entry}
use Rattle.replica_core.specs.Machine as machine
use Rattle.history.specs.World.{OrderedWorld, is_opened, rows_of, AreGtidsSound, IsSound}
use Rattle.history.proofs.Committing.{opening_is_closed}
use Rattle.convergence.specs.Faithful.{start_with, IsOpening, IsFaithfulRun, IsMerged}
use Rattle.convergence.proofs.Invariant.{IsIn, Invariant}
use Rattle.convergence.proofs.Growing.{Known}
use Rattle.convergence.proofs.Runs.{opening_holds, faithful_runs_merge}
use Rattle.network.specs.declared.event.NetworkEvent.{NetworkEvent}
use Rattle.network.specs.declared.event.NetworkReply.{NetworkReply}
use Rattle.network.specs.Nodes.{Node, opened_node, new_nodes, ids_distinct}
use Rattle.network.specs.Machine.{Making, Decision, decide, Step, step, replies, after}
use Rattle.network.specs.Sending.{is_entry}
use Rattle.network.specs.Runs.{NetworkRun, AreApart, IsInTurnAt, IsInTurn, AreInTurn, local_at, local_of, locals, world_of, start, end, run_locals, run_world, run_of, extension}
use Rattle.network.specs.Rings.{HasNoMore, site_of, RingsMerge, LeavesMerged, RingsGoOn, ApartIsInTurn}
use Rattle.convergence.proofs.Permuting.{in_place, is_in_entry}
use Rattle.network.proofs.Contents.{in_left, in_right, pairs_distinct}
use Rattle.network.proofs.Numbering.{step_learns}
use Rattle.network.proofs.Numbers.{Numbers, own_done, numbers_step}
use Rattle.network.proofs.Holding.{Holds, histories, run_holds}
use Rattle.network.proofs.Logs.{IsLog}
use Rattle.network.proofs.Links.{AreLinked}
use Rattle.network.proofs.Reaching.{came, numbers_run, no_more}
use mathlib.Core.Bool.{or-false}
use Rattle.lemmas.proofs.Lists.{get_map_cases, get_map}
use Rattle.lemmas.proofs.Options.{none_some}
use Rattle.lemmas.proofs.Tests.{never, not_both}

in_nothing : {A : Type 0} (g : Gtid) → set.contains (set.empty {R = gtid_cmp}) g ≡ true → A
in_nothing g h = never (sym (set.contains-empty gtid_cmp g) ∙ h)

-- ---- the opening

-- one UUID is at one place alone
is_listed : (ids : List ℕ) (i own : ℕ) → slice_get ids i ≡ Some own → list_any (λ other. eqb other own) ids ≡ true
is_listed [] i own e = none_some own e
is_listed (x ∷ ids) zero own e = or_left (eqb x own) (list_any (λ other. eqb other own) ids) (eq-eqb x own (same_Some x own e))
is_listed (x ∷ ids) (suc i) own e = or_right (eqb x own) (list_any (λ other. eqb other own) ids) (is_listed ids i own e)

one_place : (ids : List ℕ) → ids_distinct ids ≡ true → (i k own : ℕ) → slice_get ids i ≡ Some own → slice_get ids k ≡ Some own → i ≡ k
one_place [] d i k own e f = none_some own e
one_place (x ∷ ids) d zero zero own e f = refl
one_place (x ∷ ids) d zero (suc k) own e f =
    let two = and_parts (not (list_any (λ other. eqb other x) ids)) (ids_distinct ids) d in
    not_both (list_any (λ other. eqb other x) ids) (is_listed ids k x (f ∙ ap Some (sym (same_Some x own e)))) (not-true (list_any (λ other. eqb other x) ids) two.0)
one_place (x ∷ ids) d (suc i) zero own e f =
    let two = and_parts (not (list_any (λ other. eqb other x) ids)) (ids_distinct ids) d in
    not_both (list_any (λ other. eqb other x) ids) (is_listed ids i x (e ∙ ap Some (sym (same_Some x own f)))) (not-true (list_any (λ other. eqb other x) ids) two.0)
one_place (x ∷ ids) d (suc i) (suc k) own e f =
    let two = and_parts (not (list_any (λ other. eqb other x) ids)) (ids_distinct ids) d in
    ap suc (one_place ids two.1 i k own e f)

pub opened_at : (ids : List ℕ) (schema : List Table) (rows : Rows) (i : ℕ) (node : Node) → slice_get (new_nodes ids schema rows) i ≡ Some node → (own : ℕ) × (slice_get ids i ≡ Some own) × (opened_node schema rows own ≡ node)
opened_at ids schema rows i node e = get_map_cases (opened_node schema rows) ids i node e

no_channel_known : (rows : Rows) (g : Gtid) → Known (machine.opening set.empty rows) g → is_entry [] g ≡ true
no_channel_known rows g (inl done) = in_nothing g done
no_channel_known rows g (inr w) = none_some w.1 w.2

pub numbers_open : (ids : List ℕ) (schema : List Table) (rows : Rows) → ids_distinct ids ≡ true → Numbers (new_nodes ids schema rows) []
numbers_open ids schema rows distinct = record {
  sites = λ i k a b p q same.
      let u = opened_at ids schema rows i a p in
      let v = opened_at ids schema rows k b q in
      let one : u.0 ≡ v.0 = ap (λ (x : Node). x.replica.site.own) u.2 ∙ (same ∙ ap (λ (x : Node). x.replica.site.own) (sym v.2)) in
      one_place ids distinct i k v.0 (u.1 ∙ ap Some one) v.1;
  recorded = λ i node e g.
      let u = opened_at ids schema rows i node e in
      subst (λ (x : Node). (set.contains x.replica.state.journal.previous g || is_entry x.replica.state.journal.entries g) ≡ set.contains x.replica.state.executed g) u.2 (or-false (set.contains set.empty g));
  known = λ i node e g k.
      let u = opened_at ids schema rows i node e in
      no_channel_known rows g (subst (λ (x : Node). Known x.replica.state g) (sym u.2) k);
  origin = λ g h. never h;
  once = tt;
}

-- ---- the world of a run

pub place_in : (es : List Entry) (i : ℕ) (x : Entry) → slice_get es i ≡ Some x → IsIn x es
place_in [] i x e = none_some x e
place_in (y ∷ es) zero x e = inl (same_Some y x e)
place_in (y ∷ es) (suc i) x e = inr (place_in es i x e)

-- what nodes committed by Local so far, as a world
module _ (schema : List Table) (rows : Rows) (nodes : List Node) (L : List Entry) (n : Numbers nodes L) where
  abbrev world : OrderedWorld
  world = world_of schema rows L

  pub unopened : (g : Gtid) → is_opened world g ≡ false
  unopened g = set.contains-empty gtid_cmp g

  pub gtids_sound : AreGtidsSound world
  gtids_sound = record { outside = λ g h. unopened g; distinct = pairs_distinct L n.once }

-- ---- the theorem

one_ok : (r : Result Rows RowFault) (x y : Rows) → r ≡ Ok x → r ≡ Ok y → x ≡ y
one_ok r x y p q = cc

pub rings_merge : RingsMerge
rings_merge run distinct turns =
    let schema = run.schema in
    let rows = run.rows in
    let nodes : List Node = start run in
    let last : List Node = end run in
    let L : List Entry = run_locals run in
    let W : OrderedWorld = run_world run in
    let first_numbers = numbers_open run.ids schema rows distinct in
    let n : Numbers last L = numbers_run run.events nodes [] first_numbers in
    let gtids : AreGtidsSound W = gtids_sound schema rows last L n in
    let new : (g : Gtid) → is_opened W g ≡ false = unopened schema rows last L n in
    let opens = opening_is_closed W gtids in
    let opening : IsOpening W set.empty rows = record { closed = opens.0; stands_for = opens.1 } in
    let first : Invariant W (start_with set.empty rows) (λ c. []) = opening_holds W set.empty rows opening in
    let opened_here : (P : Node → Type 0) → ((own : ℕ) → P (opened_node schema rows own)) → (i : ℕ) (node : Node) → slice_get nodes i ≡ Some node → P node = λ P p i node e.
    let u = opened_at run.ids schema rows i node e in
    subst P u.2 (p u.0) in
    let holds : Holds W nodes (λ i c. []) (λ i. []) = record {
      schema = opened_here (λ x. x.replica.site.schema ≡ schema) (λ own. refl);
      invariant = opened_here (λ x. Invariant W x.replica.state (λ c. [])) (λ own. first);
      logs = opened_here (λ x. IsLog W [] x.replica.state.journal) (λ own. record { previous = λ g. set.contains-empty gtid_cmp g; faithful = first.journal });
      links = opened_here (λ x. AreLinked x.replica.state.channels (λ c. []) x.sources (histories nodes (λ i. []))) (λ own c ch A k log f a r h. none_some ch f);
    } in
    let held = run_holds W gtids new run.events nodes [] (λ i c. []) (λ i. []) first_numbers holds (record { whole = record { order = refl; once = n.once }; turns = turns; sofar = (rows, refl) }) in
    let sound : IsSound W = record { gtids = gtids; applies = held.applies } in
    let faithful : (i own : ℕ) → slice_get run.ids i ≡ Some own → IsFaithfulRun W (site_of run own) set.empty rows (run_of run i) = λ i own e.
    held.faithful i (opened_node schema rows own) (get_map (opened_node schema rows) run.ids i own e) in
    let reached : (i own : ℕ) (node : Node) → slice_get run.ids i ≡ Some own → slice_get last i ≡ Some node → node.replica.state ≡ machine.after (site_of run own) (start_with set.empty rows) (run_of run i) = λ i own node e f.
    let r = came run.events nodes i node f in
    let is : r.node ≡ opened_node schema rows own = same_Some r.node (opened_node schema rows own) (sym r.at ∙ get_map (opened_node schema rows) run.ids i own e) in
    r.state ∙ ap (λ (x : Node). machine.after x.replica.site x.replica.state (run_of run i)) is in
    let merged : (i : ℕ) (node : Node) → slice_get last i ≡ Some node → IsMerged W node.replica.state = λ i node f.
    let r = came run.events nodes i node f in
    let u = opened_at run.ids schema rows i r.node r.at in
    subst (IsMerged W) (sym (reached i u.0 node u.1 f)) (faithful_runs_merge W (site_of run u.0) set.empty rows (run_of run i) refl sound opening (faithful i u.0 u.1)).0 in
    record {
      sound = sound;
      faithful = faithful;
      reached = reached;
      merged = merged;
      equal = λ i k a b p q same. one_ok (rows_of W (set.contains a.replica.state.executed)) a.replica.state.rows b.replica.state.rows (merged i a p).rows
          (ap (λ (X : Gtids). rows_of W (set.contains X)) same ∙ (merged k b q).rows);
      no_more = no_more run.events nodes [] first_numbers;
    }

-- ---- what is apart is in turn

turn_at : (schema : List Table) (nodes : List Node) (L rest : List Entry) → Numbers nodes L → (m : Making) (o : Option Node) → ((node : Node) → o ≡ Some node → slice_get nodes m.node ≡ Some node)
    → AreApart schema (L ++ (option_map_or (local_at m.event) o [] ++ rest)) → IsInTurnAt schema L m.event o
turn_at schema nodes L rest n m None at apart = tt
turn_at schema nodes L rest n m (Some node) at apart = λ i x here k e there shares.
    let added : List Entry = local_at m.event node in
    let in_added : IsIn x added = place_in added i x here in
    let in_sofar : IsIn e L = place_in L k e there in
    elim (cases_Bool (eqb e.gtid.source x.gtid.source)) [
      | inl same ↦ own_done nodes L n m.node node (at node refl) e.gtid (is_in_entry L e in_sofar)
          (eqb-true e.gtid.source x.gtid.source same ∙ ((step_learns node.replica.site node.replica.state m.event).next x in_added).source)
      | inr other ↦
          let a = in_place (L ++ (added ++ rest)) e (in_left L (added ++ rest) e in_sofar) in
          let b = in_place (L ++ (added ++ rest)) x (in_right L (added ++ rest) x (in_left added rest x in_added)) in
          not_both (conflicts schema e.txn x.txn) shares (apart a.0 b.0 e x a.1 b.1 (λ s. not_both (eqb e.gtid.source x.gtid.source) (eq-eqb e.gtid.source x.gtid.source s) other))
    ]

turn_decided : (schema : List Table) (nodes : List Node) (L rest : List Entry) → Numbers nodes L → (d : Decision) → AreApart schema (L ++ (local_of nodes d ++ rest)) → IsInTurn schema L nodes d
turn_decided schema nodes L rest n (Err r) apart = tt
turn_decided schema nodes L rest n (Ok m) apart = turn_at schema nodes L rest n m (slice_get nodes m.node) (λ node e. e) apart

turns_from : (schema : List Table) (events : List NetworkEvent) (nodes : List Node) (L : List Entry) → Numbers nodes L → AreApart schema (L ++ locals nodes events) → AreInTurn schema L nodes events
turns_from schema [] nodes L n apart = tt
turns_from schema (e ∷ es) nodes L n apart = (
  turn_decided schema nodes L (locals (step nodes e).1 es) n (decide nodes e) apart,
  turns_from schema es (step nodes e).1 (L ++ local_of nodes (decide nodes e)) (numbers_step nodes L n e)
      (subst (AreApart schema) (sym (append_assoc L (local_of nodes (decide nodes e)) (locals (step nodes e).1 es))) apart),
)

pub apart_is_in_turn : ApartIsInTurn
apart_is_in_turn run distinct apart = turns_from run.schema run.events (start run) [] (numbers_open run.ids run.schema run.rows distinct) apart

-- ---- from the middle of a run

after_append : (nodes : List Node) (es fs : List NetworkEvent) → after nodes (es ++ fs) ≡ after (after nodes es) fs
after_append nodes [] fs = refl
after_append nodes (e ∷ es) fs = after_append (step nodes e).1 es fs

last_replies : (nodes : List Node) (es fs : List NetworkEvent) → AllByRecursion HasNoMore (replies nodes (es ++ fs)) → AllByRecursion HasNoMore (replies (after nodes es) fs)
last_replies nodes [] fs h = h
last_replies nodes (e ∷ es) fs h = last_replies (step nodes e).1 es fs h.1

pub rings_go_on : RingsGoOn
rings_go_on nodes events run distinct reached turns =
    let all : NetworkRun = extension run events in
    let m = rings_merge all distinct turns in
    let same : after nodes events ≡ end all = ap (λ (n : List Node). after n events) reached ∙ sym (after_append (start run) run.events events) in
    let there : (i : ℕ) (node : Node) → slice_get (after nodes events) i ≡ Some node → slice_get (end all) i ≡ Some node = λ i node e. ap (λ (n : List Node). slice_get n i) (sym same) ∙ e in
    record {
      sound = m.sound;
      faithful = m.faithful;
      reached = λ i own node e f. m.reached i own node e (there i node f);
      merged = λ i node e. m.merged i node (there i node e);
      equal = λ i k a b p q. m.equal i k a b (there i a p) (there k b q);
      no_more = subst (λ (n : List Node). AllByRecursion HasNoMore (replies n events)) (sym reached) (last_replies (start run) run.events events m.no_more);
    }

-- one event
pub step_merges : (old : List Node) (e : NetworkEvent) (r : NetworkReply) (new : List Node) → (r, new) ≡ step old e → LeavesMerged old (e ∷ []) (r ∷ []) new
step_merges old e r new made = subst (λ (s : Step). LeavesMerged old (e ∷ []) (s.0 ∷ []) s.1) (sym made) (rings_go_on old (e ∷ []))

-- events in turn
pub run_merges : (old : List Node) (events : List NetworkEvent) (told : List NetworkReply) (new : List Node) → told ≡ replies old events → new ≡ after old events → LeavesMerged old events told new
run_merges old events told new answers nodes =
    subst (LeavesMerged old events told) (sym nodes) (subst (λ rs. LeavesMerged old events rs (after old events)) (sym answers) (rings_go_on old events))
