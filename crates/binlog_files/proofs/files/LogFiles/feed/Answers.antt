use Rattle.binlog_files.specs.Given.{sets}
use Rattle.binlog_files.proofs.Running.{fed}
use Rattle.binlog_files.proofs.files.LogFiles.feed.Goals as goal

pub returns-clause-taken : goal.returns-clause-taken
returns-clause-taken c =
    fed (sets c.args.given) c.args.self.now (record { frames = c.drain.new.frames; taken = c.drain.new.taken }) c.feed.new.self c.args.piece.now c.drain.result c.in-Ok.ensures.read c.drain.ensures.taken
