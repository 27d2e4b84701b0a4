use Rattle.std.proofs.Common.{◌≡◌, map, drop}
use Rattle.std.specs.List.{list_all}
use Rattle.row_images.specs.Words.{is_count}
use Rattle.txn_journal.proofs.tables.are_counts.Given as goal

abbrev pub invariant-loop-word : goal.invariant-loop-word
invariant-loop-word l = list_all is_count (map (λ w. w.now) (drop l.word-index l.words)) ≡ list_all is_count (map (λ w. w.now) l.words)
