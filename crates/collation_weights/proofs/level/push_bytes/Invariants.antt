use Rattle.std.proofs.Common.{◌≡◌, ◌++◌, take}
use Rattle.collation_weights.specs.Levels.{level}
use Rattle.collation_weights.proofs.level.push_bytes.Given as goal

abbrev pub invariant-loop-byte : goal.invariant-loop-byte
invariant-loop-byte l = l.out.items ≡ l.fn.out.items ++ level l.table (take l.byte-index l.bytes)
