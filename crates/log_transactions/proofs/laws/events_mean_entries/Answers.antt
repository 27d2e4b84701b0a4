use Rattle.log_transactions.proofs.EventLaws.{events_told}
use Rattle.log_transactions.proofs.laws.events_mean_entries.Goals as goal

pub returns : goal.returns
returns c = events_told
