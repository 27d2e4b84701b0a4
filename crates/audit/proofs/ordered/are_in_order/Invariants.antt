use Rattle.std.proofs.Common.{take}
use Rattle.audit.specs.Ordered.{AreInOrder}
use Rattle.audit.proofs.ordered.are_in_order.Given as goal

abbrev pub invariant-loop-journal : goal.invariant-loop-journal
invariant-loop-journal l = AreInOrder l.opened (take l.journal-index l.journals)
