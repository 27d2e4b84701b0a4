use Rattle.std.proofs.Common.{◌≡◌, ◌++◌, IfOk, List, ℕ, length}
use Rattle.std.specs.List.{concat}
use Rattle.parallel_reading.specs.Coming.{HasCome}
use Rattle.parallel_reading.proofs.reading.fed_beside.Given as goal

abbrev pub invariant-reading : goal.invariant-reading
invariant-reading g l = (front : List ℕ) × ((bytes : List ℕ) → HasCome l.fn.reader bytes → HasCome l.reader (bytes ++ front)) × (l.piece ≡ (front ++ l.block) ++ l.left) × (IfOk l.parsed (λ parsed. concat parsed.items ≡ l.block))

abbrev pub decreases-reading : goal.decreases-reading
decreases-reading g l = length l.left
