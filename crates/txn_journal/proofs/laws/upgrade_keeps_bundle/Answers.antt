use Rattle.txn_journal.proofs.BundlePlaces.{upgraded, upgraded_read}
use Rattle.txn_journal.proofs.laws.upgrade_keeps_bundle.Goals as goal

pub returns : goal.returns
returns c = record { text = upgraded; read = upgraded_read }
