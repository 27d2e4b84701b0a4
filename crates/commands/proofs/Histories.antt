-- A history of work is a run.
use Rattle.std.proofs.Common.{◌≡◌, ℕ, List, [], ◌∷◌, ◌++◌, sym, subst}
use Rattle.std.specs.List.{AllByRecursion}
use Rattle.replica_core.specs.State.{Replica}
use Rattle.replica_core.specs.declared.event.Event.{Event}
use Rattle.replica_core.specs.declared.event.Event.TheVariants.{Take, Commit, Rollback}
use Rattle.shared_replica.specs.declared.step.Step.{Step}
use Rattle.shared_replica.specs.History.{IsReplay, events_of}
use Rattle.shared_replica.specs.Closing.{ClosedValue}
use Rattle.applier.specs.Applies.{IsApply}
use Rattle.applier.specs.Draining.{AllApply, Drains}
use Rattle.txn_journal.specs.BundleStates.{BundleValue}
use Rattle.serving.specs.declared.order.Order.{Order}
use Rattle.serving.specs.Serving.{IsReady, IsRun, run}
use Rattle.replica_core.specs.Draining.{AreStoppedOrDone}
use Rattle.commands.specs.Applying.{IsHistory}
use Rattle.serving.proofs.Runs.{ready_applied}

-- what holds of a take, a commit and a rollback holds of the events of steps that are such
module _ (P : Event → Type 0) (take : (seat c p : ℕ) → P (Take seat c p)) (commit : (seat : ℕ) → P (Commit seat)) (rollback : (seat : ℕ) → P (Rollback seat)) where
  one_applies : (e : Event) → IsApply e → P e
  one_applies (Take seat c p) h = take seat c p
  one_applies (Commit seat) h = commit seat
  one_applies (Rollback seat) h = rollback seat
  one_applies e h = absurd h

  all_apply : (steps : List Step) → AllApply steps → AllByRecursion P (events_of steps)
  all_apply [] h = tt
  all_apply (s ∷ steps) h = (one_applies s.event h.0, all_apply steps h.1)

both_apply : (first more : List Step) → AllApply first → AllApply more → AllApply (first ++ more)
both_apply [] more h k = k
both_apply (s ∷ first) more h k = (h.0, both_apply first more h.1 k)

-- a replica that replays steps has run their events
replayed : (core now : Replica) (steps : List Step) → IsReplay core steps now → now ≡ run core (events_of steps)
replayed core now steps legal = λ i. record { site = legal.site i; state = legal.state i }

-- a history of work to which draining has added is one, once each channel is stopped or done
pub history_left : (order : Order) (b : BundleValue) (worked left : ClosedValue) → IsReady order b worked.opening → AllApply worked.steps → Drains worked left
    → IsReplay left.opening left.steps left.now → AreStoppedOrDone left.now.state → IsHistory order b left
history_left order b worked left ready work drains legal ends = record {
  ready = subst (IsReady order b) (sym drains.opening) ready;
  work = subst AllApply (sym drains.steps) (both_apply worked.steps drains.more work drains.apply);
  legal = legal;
  ends = ends;
}

-- a replica that has received everything, and then a history of work, to which draining has added
pub history_runs : (order : Order) (b : BundleValue) (worked left : ClosedValue) → IsReady order b worked.opening → AllApply worked.steps → Drains worked left
    → IsReplay left.opening left.steps left.now → IsRun order b left.now
history_runs order b worked left ready work drains legal =
    let replay : IsReplay worked.opening left.steps left.now = subst (λ (x : Replica). IsReplay x left.steps left.now) drains.opening legal in
    let all : AllApply left.steps = subst AllApply (sym drains.steps) (both_apply worked.steps drains.more work drains.apply) in
    ready_applied order b worked.opening left.now ready
    (record { events = events_of left.steps; between = all_apply _ (λ seat c p. tt) (λ seat. tt) (λ seat. tt) left.steps all; now = replayed worked.opening left.now left.steps replay })
