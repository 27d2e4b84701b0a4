use Rattle.serving.specs.declared.receiving.Apply.TheVariants.{AtOnce}
use Rattle.serving.specs.Serving.{Applies}
use Rattle.serving.proofs.Settling.{AreFree}
use Rattle.serving.proofs.working.free_all.Given as goal

abbrev pub invariant-loop-seat : goal.invariant-loop-seat
invariant-loop-seat l = record {
  applies : Applies AtOnce l.fn.core l.core;
  free : AreFree l.seat l.core.state;
}
