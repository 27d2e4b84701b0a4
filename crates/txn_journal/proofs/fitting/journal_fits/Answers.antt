use Rattle.std.proofs.Common.{rules}
use Rattle.std.specs.List.{AllByRecursion}
use Rattle.journal.specs.Journals.{IsJournal}
use Rattle.txn_journal.specs.Spelling.{IsOfParts}
use Rattle.txn_journal.proofs.WrittenLaws.{few_written}
use Rattle.txn_journal.proofs.fitting.journal_fits.Goals as goal

pub returns : goal.returns
returns c =
    let j = c.args.journal.now in
    let keeps : IsJournal j.previous j.entries = search rules in
    let parts : AllByRecursion IsOfParts j.entries = search rules in
    λ limits fits. few_written limits j keeps (search rules) parts fits
