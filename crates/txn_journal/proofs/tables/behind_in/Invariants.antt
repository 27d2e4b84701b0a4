use Rattle.std.proofs.Common.{◌≡◌, [], map, length}
use Rattle.txn_journal.specs.Shapes.{behind_from}
use Rattle.txn_journal.proofs.tables.behind_in.Given as goal

abbrev pub invariant-words : goal.invariant-words
invariant-words l = behind_from l.limits (map (λ u. u.now) l.uniques.items) (map (λ w. w.now) l.left) ≡ behind_from l.limits [] (map (λ w. w.now) l.words)

abbrev pub decreases-words : goal.decreases-words
decreases-words l = length l.left
