use Rattle.std.proofs.Common.{◌<◌, ℕ}
use Rattle.replica_core.specs.Draining.{NothingIsOwned, IsDone}
use Rattle.applier.specs.Draining.{Drains}
use Rattle.applier.proofs.draining.settle_all.Given as goal

abbrev pub invariant-loop-channel : goal.invariant-loop-channel
invariant-loop-channel l = Drains l.fn.book l.book × NothingIsOwned l.book.now.state × ((c : ℕ) → c < l.channel → IsDone c l.book.now.state)
