use Rattle.binlog_events.proofs.OneList.{file_list}
use Rattle.binlog_events.proofs.laws.file_is_listed.Goals as goal

pub returns : goal.returns
returns c = file_list
