use Rattle.std.proofs.Common.{◌≡◌, ◌++◌, ◌-◌, map, drop}
use Rattle.binlog_rows.proofs.decimals.put_turned.Given as goal

abbrev pub invariant-loop-byte : goal.invariant-loop-byte
invariant-loop-byte l =
    l.out.items ++ map (λ x. 255 - x) (drop l.byte-index l.bytes) ≡ l.fn.out.items ++ map (λ x. 255 - x) l.bytes
