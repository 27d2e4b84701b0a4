use Rattle.std.proofs.Common.{◌++◌, List, ℕ}
use Rattle.std.specs.List.{concat}
use Rattle.parallel_reading.specs.Coming.{HasCome}
use Rattle.parallel_reading.proofs.reading.take_all.Given as goal

abbrev pub invariant-loop-part : goal.invariant-loop-part
invariant-loop-part l = (bytes : List ℕ) → HasCome l.fn.reader bytes → HasCome l.reader (bytes ++ concat l.yielded)
