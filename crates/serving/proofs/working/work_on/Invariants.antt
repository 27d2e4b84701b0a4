use Rattle.serving.specs.declared.receiving.Apply.TheVariants.{AtOnce}
use Rattle.serving.specs.Serving.{Applies}
use Rattle.serving.specs.Working.{Finishes}
use Rattle.serving.proofs.working.work_on.Given as goal

abbrev pub invariant-loop-place : goal.invariant-loop-place
invariant-loop-place l = record {
  applies : Applies AtOnce l.fn.core l.core;
  finishes : Finishes l.channel l.place l.fn.core.state l.core.state;
}
