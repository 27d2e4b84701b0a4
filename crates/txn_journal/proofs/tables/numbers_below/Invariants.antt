use Rattle.std.proofs.Common.{◌≡◌, [], map, drop}
use Rattle.txn_journal.specs.Shapes.{numbers_from}
use Rattle.txn_journal.proofs.tables.numbers_below.Given as goal

abbrev pub invariant-loop-word : goal.invariant-loop-word
invariant-loop-word l = numbers_from l.limit l.columns.items (map (λ w. w.now) (drop l.word-index l.words)) ≡ numbers_from l.limit [] (map (λ w. w.now) l.words)
