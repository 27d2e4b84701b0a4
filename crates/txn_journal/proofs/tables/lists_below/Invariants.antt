use Rattle.std.proofs.Common.{◌≡◌, [], map, drop}
use Rattle.txn_journal.specs.Shapes.{keys_from}
use Rattle.txn_journal.proofs.tables.lists_below.Given as goal

abbrev pub invariant-loop-text : goal.invariant-loop-text
invariant-loop-text l = keys_from l.limit l.keys.items (map (λ w. w.now) (drop l.text-index l.texts)) ≡ keys_from l.limit [] (map (λ w. w.now) l.texts)
