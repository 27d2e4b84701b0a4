use Rattle.binlog_entries.proofs.Pieces.{eats_append}
use Rattle.binlog_entries.proofs.laws.cut_anywhere.Goals as goal

pub returns : goal.returns
returns c = eats_append
