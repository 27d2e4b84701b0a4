use Rattle.binlog_entries.proofs.Meanings.{entries_told}
use Rattle.binlog_entries.proofs.laws.lines_mean_entries.Goals as goal

pub returns : goal.returns
returns c = entries_told
