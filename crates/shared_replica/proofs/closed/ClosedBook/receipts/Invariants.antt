use Rattle.std.proofs.Common.{◌≡◌, drop}
use Rattle.shared_replica.specs.Closing.{receipts_of}
use Rattle.shared_replica.proofs.closed.ClosedBook.receipts.Given as goal

-- no sheet before this one is the seat's
abbrev pub invariant-loop-sheet : goal.invariant-loop-sheet
invariant-loop-sheet l = receipts_of l.seat (drop l.sheet-index l.sheet-items) ≡ receipts_of l.seat l.self.sheets
