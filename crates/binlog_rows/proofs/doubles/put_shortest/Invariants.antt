use Rattle.std.proofs.Common.{◌≡◌, ◌+◌, ◌-◌, ◌^◌}
use Rattle.binlog_rows.specs.Doubles.{shortest_text}
use Rattle.binlog_rows.proofs.doubles.put_shortest.Given as goal

abbrev pub invariant-loop-i : goal.invariant-loop-i
invariant-loop-i l =
    (l.unit ≡ 10 ^ (l.i + 1)) × (l.out.items ≡ l.fn.out.items) × (shortest_text (22 - l.i) l.unit l.number l.parts ≡ shortest_text 22 10 l.number l.parts)
