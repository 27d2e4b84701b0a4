use Rattle.std.proofs.Common.{◌≡◌, ◌++◌, drop}
use Rattle.log_transactions.specs.Tables.{escaped}
use Rattle.log_transactions.proofs.mapped.put_escaped.Given as goal

abbrev pub invariant-loop-byte : goal.invariant-loop-byte
invariant-loop-byte l = l.name.items ++ escaped (drop l.byte-index l.part) ≡ l.fn.name.items ++ escaped l.part
