use Rattle.txn_journal.proofs.TimestampedLaws.{right_text, right_read}
use Rattle.txn_journal.proofs.laws.timestamped_read_back.Goals as goal

pub returns : goal.returns
returns c = record { text = right_text; read = right_read }
