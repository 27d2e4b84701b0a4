use Rattle.binlog_events.proofs.Listed.{passed_front}
use Rattle.binlog_events.proofs.lister.take_front.Goals as goal

pub returns-in-Passed : goal.returns-in-Passed
returns-in-Passed c = passed_front c.args.detail c.args.frames.now c.pass.new.self _ _ _ _ c.in_ok-front.front c.in-Passed.is c.in_ok-front.ensures c.pass.ensures.read
