use Rattle.std.proofs.Common.{◌≡◌, ◌+◌, ◌++◌, map, drop}
use Rattle.fault_places.specs.Explained.{columns_from}
use Rattle.fault_places.proofs.verdict_text.put_columns.Given as goal

abbrev pub invariant-loop-i : goal.invariant-loop-i
invariant-loop-i l =
    l.out.items ++ columns_from l.key (l.i + 1) (map (λ x. x.now) (drop l.i l.lines)) ≡ l.fn.out.items ++ columns_from l.key 1 (map (λ x. x.now) l.lines)
