use Rattle.txn_journal.proofs.TakenLines.{taken_behind, eats_behind, closing_behind}
use Rattle.txn_journal.proofs.laws.taken_in_front.Goals as goal

pub returns : goal.returns
returns c = record { taken = taken_behind; feed_bytes = eats_behind; closing = closing_behind }
