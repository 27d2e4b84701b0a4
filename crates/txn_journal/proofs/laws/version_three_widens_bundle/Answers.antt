use Rattle.txn_journal.proofs.Widening.{widens, widens_read}
use Rattle.txn_journal.proofs.laws.version_three_widens_bundle.Goals as goal

pub returns : goal.returns
returns c = record { text = widens; read = widens_read }
