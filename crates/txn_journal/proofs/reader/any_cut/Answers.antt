use Rattle.txn_journal.specs.Reading.{journals}
use Rattle.txn_journal.proofs.Pieces.{eats_append}
use Rattle.txn_journal.proofs.reader.any_cut.Goals as goal

pub returns : goal.returns
returns c = λ p front back. eats_append journals.judge p front back
