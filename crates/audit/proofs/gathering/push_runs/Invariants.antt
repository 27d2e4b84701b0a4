use Rattle.std.proofs.Common.{◌≡◌, ◌++◌, drop, map}
use Rattle.audit.specs.Gathering.{entries_of}
use Rattle.audit.proofs.gathering.push_runs.Given as goal

abbrev pub invariant-loop-run : goal.invariant-loop-run
invariant-loop-run l = map (λ e. e.now) l.list.items ++ entries_of (drop l.run-index l.runs) ≡ map (λ e. e.now) l.fn.list.items ++ entries_of l.runs
