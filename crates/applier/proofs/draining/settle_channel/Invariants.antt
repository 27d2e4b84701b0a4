use Rattle.replica_core.specs.Draining.{NothingIsOwned, Follows, IsDoneBelow}
use Rattle.applier.specs.Draining.{Drains}
use Rattle.applier.proofs.draining.settle_channel.Given as goal

abbrev pub invariant-loop-place : goal.invariant-loop-place
invariant-loop-place l = Drains l.fn.book l.book × NothingIsOwned l.book.now.state × Follows l.fn.book.now.state l.book.now.state × IsDoneBelow l.place l.channel l.book.now.state
