use Rattle.serving.specs.declared.receiving.Apply.TheVariants.{AtOnce}
use Rattle.serving.specs.Serving.{Applies}
use Rattle.serving.proofs.Settling.{Ends}
use Rattle.serving.proofs.working.work_on_all.Given as goal

abbrev pub invariant-loop-channel : goal.invariant-loop-channel
invariant-loop-channel l = record {
  applies : Applies AtOnce l.fn.core l.core;
  ends : Ends l.channel l.fn.core.state l.core.state;
}
