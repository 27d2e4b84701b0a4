use Rattle.std.proofs.Common.{◌≡◌}
use Rattle.shared_replica.proofs.book.Book.ready_places.Given as goal

abbrev pub invariant-loop-slot : goal.invariant-loop-slot
invariant-loop-slot g l = l.count ≡ l.slot-index
