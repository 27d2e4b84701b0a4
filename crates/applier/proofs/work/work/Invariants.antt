use Rattle.applier.specs.Applies.{GoesOn}
use Rattle.applier.proofs.work.work.Given as goal

abbrev pub invariant-loop : goal.invariant-loop
invariant-loop g l = GoesOn l.fn.pass l.pass
