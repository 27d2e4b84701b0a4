use Rattle.replica_core.proofs.FreeLemmas.{more_seats}
use Rattle.applier.proofs.Drainings.{drains_further}
use Rattle.applier.proofs.draining.free_all.Goals as goal

pub returns-in_err-free-clause-drains : goal.returns-in_err-free-clause-drains
returns-in_err-free-clause-drains c = drains_further _ _ _ c.loop-seat.invariant.0 c.free.ensures.drains

pub loop-seat-preserved : goal.loop-seat-preserved
loop-seat-preserved c = (
  drains_further _ _ _ c.loop-seat.invariant.0 c.free.ensures.drains,
  λ seat low less. more_seats c.loop-seat.book.now.state c.free.new.book.now.state c.loop-seat.seat seat c.loop-seat.invariant.1 c.in_ok-free.ensures.free c.in_ok-free.ensures.others low less,
)
