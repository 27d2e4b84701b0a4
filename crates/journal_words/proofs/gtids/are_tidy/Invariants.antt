use Rattle.std.proofs.Common.{◌≡◌, drop, None, option_map}
use Rattle.gtid_text.specs.Counting.{are_tidy_behind}
use Rattle.journal_words.proofs.gtids.are_tidy.Given as goal

abbrev pub invariant-loop-span : goal.invariant-loop-span
invariant-loop-span l = are_tidy_behind (option_map (λ s. s.now) l.before) (drop l.span-index l.spans) ≡ are_tidy_behind None l.spans
