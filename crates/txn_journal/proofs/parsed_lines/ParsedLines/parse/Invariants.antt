use Rattle.std.proofs.Common.{◌≡◌, ◌++◌, length}
use Rattle.txn_journal.specs.ParsedTexts.{text_in}
use Rattle.txn_journal.proofs.parsed_lines.ParsedLines.parse.Given as goal

abbrev pub invariant-items : goal.invariant-items
invariant-items l = l.text ≡ text_in l.items.items ++ l.rest

abbrev pub decreases-items : goal.decreases-items
decreases-items l = length l.rest
