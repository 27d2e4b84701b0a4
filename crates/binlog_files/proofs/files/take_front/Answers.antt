use Rattle.binlog_files.specs.Given.{sets}
use Rattle.binlog_files.specs.Moved.{files_state}
use Rattle.binlog_files.proofs.Running.{one_taken, stops_here}
use Rattle.binlog_files.proofs.files.take_front.Goals as goal

pub returns-in-Ok-true-clause-taken : goal.returns-in-Ok-true-clause-taken
returns-in-Ok-true-clause-taken c =
    one_taken (sets c.args.given) c.args.frames.now c.pass.new.self (files_state c.args.taken.now) (files_state c.take_next.new.taken) c.in-Ok-true.field-0 c.in-Ok-true.field-0-test c.in-Ok-true.ensures.taken c.pass.ensures.read

pub returns-in-Err-clause-stops : goal.returns-in-Err-clause-stops
returns-in-Err-clause-stops c = stops_here (sets c.args.given) c.args.frames.now (files_state c.args.taken.now) c.in-Err.fault c.in-Err.ensures.stops
