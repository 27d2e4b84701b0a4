use Rattle.binlog_events.proofs.OneList.{one_list}
use Rattle.binlog_events.proofs.laws.one_list.Goals as goal

pub returns : goal.returns
returns c = one_list
