-- Nodes with equal executed sets hold equal rows.
use Rattle.std.proofs.Common.{◌≡◌, ℕ, zero, suc, true, false, List, [], ◌∷◌, ◌++◌, Some, refl, sym, ap, ◌∙◌, subst}
use Rattle.std.specs.Prelude.{slice_get}
use Rattle.std.specs.FinSet as set
use Rattle.std.proofs.lemmas.Option.{same_Some}
use Rattle.lemmas.proofs.Lists.{get_map}
use Rattle.lemmas.proofs.Tests.{not_both}
use Rattle.lemmas.proofs.Options.{none_some}
use Rattle.rows.specs.Apply.{Rows}
use Rattle.rows.specs.Carriers.{AreCarriers}
use Rattle.rows.specs.declared.schema.Table.{Table}
use Rattle.journal.specs.declared.Entry.{Entry}
use Rattle.replica_core.specs.State.{State}
use Rattle.replica_core.specs.Machine as machine
use Rattle.convergence.proofs.Invariant.{IsIn}
use Rattle.network.specs.declared.event.NetworkEvent.{NetworkEvent}
use Rattle.network.specs.Nodes.{Node, opened_node, new_nodes, ids_distinct}
use Rattle.network.specs.declared.event.NetworkReply.{NetworkReply}
use Rattle.network.specs.Machine.{Step, after, step}
use Rattle.network.specs.Runs.{NetworkRun, start, end, run_locals, run_of, extension}
use Rattle.network.specs.Sending.{is_entry}
use Rattle.network.specs.Rings.{site_of}
use Rattle.convergence.proofs.Permuting.{is_in_entry, in_place}
use Rattle.network.proofs.Prefixes.{IsOnce}
use Rattle.network.proofs.Reaching.{came, numbers_run}
use Rattle.world.specs.Exact.{AgreeInContents}
use Rattle.convergence.specs.Exact.{IsOfLog}
use Rattle.convergence.proofs.Logged.{runs_are_of_logs, logs_decide_rows}
use Rattle.network.specs.Exact.{node_log, AreExact, NetworksAreExact, LeavesExact, ExactGoesOn}
use Rattle.network.proofs.Merging.{opened_at, numbers_open, place_in}
use Rattle.network.proofs.Relaying.{Relays, AllRelay, logs_relay}

-- ---- places of a list in which no GTID is twice

-- an entry has another GTID than those behind it
none_behind : {A : Type 0} (y : Entry) (es : List Entry) (k : ℕ) (e f : Entry) → is_entry es y.gtid ≡ false → y ≡ e → slice_get es k ≡ Some f → e.gtid ≡ f.gtid → A
none_behind y es k e f none is there same =
    not_both (is_entry es y.gtid) (ap (is_entry es) (ap (λ (x : Entry). x.gtid) is ∙ same) ∙ is_in_entry es f (place_in es k f there)) none

pub one_place_each : (es : List Entry) → IsOnce es → (i k : ℕ) (e f : Entry) → slice_get es i ≡ Some e → slice_get es k ≡ Some f → e.gtid ≡ f.gtid → i ≡ k
one_place_each [] once i k e f p q same = none_some e p
one_place_each (y ∷ es) once zero zero e f p q same = refl
one_place_each (y ∷ es) once zero (suc k) e f p q same = none_behind y es k e f once.0 (same_Some y e p) q same
one_place_each (y ∷ es) once (suc i) zero e f p q same = none_behind y es i f e once.0 (same_Some y f q) p (sym same)
one_place_each (y ∷ es) once (suc i) (suc k) e f p q same = ap suc (one_place_each es once.1 i k e f p q same)

-- ---- a run from the opening

relays_open : (ids : List ℕ) (schema : List Table) (rows : Rows) → AllRelay (new_nodes ids schema rows) []
relays_open ids schema rows i node e =
    let u = opened_at ids schema rows i node e in
    subst (λ (x : Node). Relays [] x.replica.state) u.2 (record { waiting = λ x w. none_some w.1 w.2; kept = λ x i. i })

module _ (run : NetworkRun) (distinct : ids_distinct run.ids ≡ true) where
  abbrev locals_once : IsOnce (run_locals run)
  locals_once = (numbers_run run.events (start run) [] (numbers_open run.ids run.schema run.rows distinct)).once

  -- what a node has committed was committed by Local
  made_in : (i own : ℕ) → slice_get run.ids i ≡ Some own → (x : Entry) → IsIn x (node_log run i own) → IsIn x (run_locals run)
  made_in i own e x j =
      logs_relay run.events (start run) [] (relays_open run.ids run.schema run.rows) i (opened_node run.schema run.rows own) (get_map (opened_node run.schema run.rows) run.ids i own e) x j

  once_made : (i k : ℕ) (e f : Entry) → slice_get (run_locals run) i ≡ Some e → slice_get (run_locals run) k ≡ Some f → e.gtid ≡ f.gtid → i ≡ k
  once_made = one_place_each (run_locals run) locals_once

  agree : (i k a b : ℕ) → slice_get run.ids i ≡ Some a → slice_get run.ids k ≡ Some b → AgreeInContents (node_log run i a) (node_log run k b)
  agree i k a b p q m n e f there here same =
      let u = in_place (run_locals run) e (made_in i a p e (place_in (node_log run i a) m e there)) in
      let v = in_place (run_locals run) f (made_in k b q f (place_in (node_log run k b) n f here)) in
      let one : u.0 ≡ v.0 = once_made u.0 v.0 e f u.1 v.1 same in
      ap (λ (x : Entry). x.txn) (same_Some e f (sym u.1 ∙ (ap (slice_get (run_locals run)) one ∙ v.1)))

  -- a node ends where its own run ends
  record Ended (i : ℕ) (node : Node) : Type 0 where
    own : ℕ
    at : slice_get run.ids i ≡ Some own
    state : node.replica.state ≡ machine.after (site_of run own) (machine.opening set.empty run.rows) (run_of run i)

  ended : (i : ℕ) (node : Node) → slice_get (end run) i ≡ Some node → Ended i node
  ended i node e =
      let r = came run.events (start run) i node e in
      let u = opened_at run.ids run.schema run.rows i r.node r.at in
      record {
        own = u.0;
        at = u.1;
        state = r.state ∙ ap (λ (x : Node). machine.after x.replica.site x.replica.state (run_of run i)) (sym u.2);
      }

  of_log : (i own : ℕ) (node : Node) → slice_get run.ids i ≡ Some own → slice_get (end run) i ≡ Some node → IsOfLog (site_of run own) set.empty run.rows (node_log run i own) node.replica.state
  of_log i own node e f =
      let n = ended i node f in
      let is : n.own ≡ own = same_Some n.own own (sym n.at ∙ e) in
      let state : node.replica.state ≡ machine.after (site_of run own) (machine.opening set.empty run.rows) (run_of run i) =
      n.state ∙ ap (λ (o : ℕ). machine.after (site_of run o) (machine.opening set.empty run.rows) (run_of run i)) is in
      subst (IsOfLog (site_of run own) set.empty run.rows (node_log run i own)) (sym state) (runs_are_of_logs (site_of run own) set.empty run.rows (run_of run i))

  equal_rows : AreCarriers run.schema run.rows → (i k : ℕ) (a b : Node) → slice_get (end run) i ≡ Some a → slice_get (end run) k ≡ Some b
      → a.replica.state.executed ≡ b.replica.state.executed → a.replica.state.rows ≡ b.replica.state.rows
  equal_rows carriers i k a b p q same =
      let m = ended i a p in
      let n = ended k b q in
      ap (λ (s : State). s.rows) m.state
      ∙ (logs_decide_rows (site_of run m.own) (site_of run n.own) set.empty run.rows (run_of run i) (run_of run k) refl carriers (agree i k m.own n.own m.at n.at)
      (ap (λ (s : State). s.executed) (sym m.state) ∙ (same ∙ ap (λ (s : State). s.executed) n.state))
      ∙ ap (λ (s : State). s.rows) (sym n.state))

pub networks_are_exact : NetworksAreExact
networks_are_exact run distinct carriers = record {
  logs = of_log run distinct;
  made = λ i own k e at there. in_place (run_locals run) e (made_in run distinct i own at e (place_in (node_log run i own) k e there));
  once = once_made run distinct;
  equal = equal_rows run distinct carriers;
}

-- ---- from the middle of a run

after_append : (nodes : List Node) (es fs : List NetworkEvent) → after nodes (es ++ fs) ≡ after (after nodes es) fs
after_append nodes [] fs = refl
after_append nodes (e ∷ es) fs = after_append (step nodes e).1 es fs

pub exact_goes_on : ExactGoesOn
exact_goes_on nodes events run distinct carriers reached =
    let all : NetworkRun = extension run events in
    let same : end all ≡ after nodes events = after_append (start run) run.events events ∙ ap (λ (n : List Node). after n events) (sym reached) in
    subst (AreExact all) same (networks_are_exact all distinct carriers)

-- one event
pub step_is_exact : (old : List Node) (e : NetworkEvent) (r : NetworkReply) (new : List Node) → (r, new) ≡ step old e → LeavesExact old (e ∷ []) new
step_is_exact old e r new made = subst (λ (s : Step). LeavesExact old (e ∷ []) s.1) (sym made) (exact_goes_on old (e ∷ []))

-- events in turn
pub run_is_exact : (old : List Node) (events : List NetworkEvent) (new : List Node) → new ≡ after old events → LeavesExact old events new
run_is_exact old events new nodes = subst (LeavesExact old events) (sym nodes) (exact_goes_on old events)
