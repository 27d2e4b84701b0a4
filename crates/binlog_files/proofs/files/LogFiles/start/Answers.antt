use Rattle.binlog_files.specs.Moved.{files_state}
use Rattle.binlog_files.specs.Taking.{start}
use Rattle.binlog_files.proofs.Wholes.{at_start}
use Rattle.binlog_files.proofs.files.LogFiles.start.Goals as goal

pub returns : goal.returns
returns c given = at_start given c.new.result (start c.args.opening) (files_state c.start.result) c.new.ensures c.start.ensures
