use Rattle.std.proofs.Common.{◌≡◌, ◌++◌, drop}
use Rattle.audit.specs.Others.{pairs_of_keys, named_by_keys}
use Rattle.audit.proofs.pairs.push_pairs.Given as goal

abbrev pub invariant-loop-key : goal.invariant-loop-key
invariant-loop-key l =
    (l.found.items ++ pairs_of_keys l.gtid l.seen l.named (drop l.key-index l.keys) ≡ l.fn.found.items ++ pairs_of_keys l.gtid l.seen l.fn.named l.keys)
    × (named_by_keys l.gtid l.seen l.named (drop l.key-index l.keys) ≡ named_by_keys l.gtid l.seen l.fn.named l.keys)
