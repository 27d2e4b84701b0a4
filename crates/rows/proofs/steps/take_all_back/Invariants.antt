use Rattle.std.proofs.Common.{◌≡◌, ◌≤◌, length}
use Rattle.indexmap.specs.IndexMap.{spare}
use Rattle.rows.specs.Steps.{all_undone}
use Rattle.rows.proofs.steps.take_all_back.Given as goal

abbrev pub invariant-loop-step : goal.invariant-loop-step
invariant-loop-step l = (all_undone l.log.items l.carriers.entries ≡ all_undone l.fn.log.items l.fn.carriers.entries) × (length l.log.items ≤ spare l.carriers)

abbrev pub decreases-loop-step : goal.decreases-loop-step
decreases-loop-step l = goal.left-loop-step l
