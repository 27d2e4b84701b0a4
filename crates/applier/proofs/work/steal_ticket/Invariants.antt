use Rattle.std.proofs.Common.{◌≡◌, length}
use Rattle.applier.proofs.work.steal_ticket.Given as goal

abbrev pub invariant-loop-other : goal.invariant-loop-other
invariant-loop-other l = length l.hand.others ≡ length l.fn.hand.others
