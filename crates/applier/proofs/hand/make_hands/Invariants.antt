use Rattle.applier.proofs.Onces.{AreMet}
use Rattle.applier.proofs.hand.make_hands.Given as goal

abbrev pub invariant-loop-me : goal.invariant-loop-me
invariant-loop-me l = AreMet l.n l.me l.hands.items
