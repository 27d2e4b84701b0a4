use Rattle.std.proofs.Common.{arith}
use Rattle.replica_core.specs.declared.event.Event.TheVariants.{Rollback}
use Rattle.serving.specs.declared.receiving.Apply.TheVariants.{AtOnce}
use Rattle.serving.proofs.Runs.{applies_step, applies_more}
use Rattle.serving.proofs.Settling.{one_more_free}
use Rattle.serving.proofs.working.free_all.Goals as goal

pub loop-seat-preserved : goal.loop-seat-preserved
loop-seat-preserved c =
    let core = c.loop-seat.core in
    let next = c.step.new.self in
    let seat = c.loop-seat.seat in
    record {
      applies = applies_more AtOnce c.args.core.now core next c.loop-seat.invariant.applies
          (applies_step AtOnce core next c.in_ok-step.field-0 (Rollback seat) tt c.step.ensures.site c.in_ok-step.ensures.ok);
      free = one_more_free core.state next.state c.in_ok-step.field-0 seat
          (omega (arith, c.loop-seat.auto.seat)) (omega (arith, c.loop-seat-test.true, c.loop-seat.auto.seat-end))
          c.one_seat_each.ensures c.in_ok-step.ensures.ok c.loop-seat.invariant.free;
    }
