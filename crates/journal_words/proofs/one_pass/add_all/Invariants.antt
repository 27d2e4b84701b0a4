use Rattle.std.proofs.Common.{List, ℕ, length}
use Rattle.gtid_text.specs.Written.{IsUsableSpan}
use Rattle.journal_words.specs.WordPrefix.{Promises}
use Rattle.journal_words.proofs.one_pass.add_all.Given as goal

abbrev pub invariant-spans : goal.invariant-spans
invariant-spans l = record {
  usable : IsUsableSpan l.last;
  promise : (word : List ℕ) → Promises word l.fn.set l.fn.first l.text → Promises word l.set l.last l.rest;
}

abbrev pub decreases-spans : goal.decreases-spans
decreases-spans l = length l.rest
