use Rattle.std.proofs.Common.{sym, ◌∙◌}
use Rattle.txn_journal.proofs.GtidLaws.{set_found, written_numbers}
use Rattle.replica_script.proofs.declaration.executed_word.Goals as goal

pub returns-in-Ok-Some-clause-numbers : goal.returns-in-Ok-Some-clause-numbers
returns-in-Ok-Some-clause-numbers c =
    let executed = c.in-Ok-Some.executed in
    written_numbers executed (set_found c.in-Some.word.now executed (sym c.in-Ok-Some.ensures.found ∙ c.in-Ok-Some.field-0-is)).1

pub returns-in-Ok-Some-clause-denotes : goal.returns-in-Ok-Some-clause-denotes
returns-in-Ok-Some-clause-denotes c = rw c.in-Some.is (sym c.in-Ok-Some.ensures.found ∙ c.in-Ok-Some.field-0-is)
