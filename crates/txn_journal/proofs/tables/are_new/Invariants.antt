use Rattle.std.proofs.Common.{◌≡◌, map, drop, false}
use Rattle.std.specs.List.{list_any}
use Rattle.std.specs.Str.{bytes_eq}
use Rattle.txn_journal.specs.Splits.{are_new_to}
use Rattle.txn_journal.proofs.tables.are_new.Given as goal

abbrev pub invariant-loop-word : goal.invariant-loop-word
invariant-loop-word l = are_new_to (λ v. list_any (λ k. bytes_eq v k.now) l.seen.keys) (map (λ w. w.now) (drop l.word-index l.words)) ≡ are_new_to (λ v. false) (map (λ w. w.now) l.words)
