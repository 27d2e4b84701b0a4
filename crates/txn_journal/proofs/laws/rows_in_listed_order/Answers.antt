use Rattle.txn_journal.proofs.ListedRows.{listed_opening}
use Rattle.txn_journal.proofs.laws.rows_in_listed_order.Goals as goal

pub returns : goal.returns
returns c = listed_opening
