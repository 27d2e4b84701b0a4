use Rattle.binlog_events.proofs.Listed.{begins_as_listed}
use Rattle.binlog_events.proofs.lister.EventLister.feed.Goals as goal

pub returns-clause-begins : goal.returns-clause-begins
returns-clause-begins c = begins_as_listed (record { frames = c.drain.new.frames; names = c.drain.new.names; detail = c.args.self.now.detail; fault = c.in_ok-self.field-0 })

pub returns-then-is_some-clause-begins : goal.returns-then-is_some-clause-begins
returns-then-is_some-clause-begins c = begins_as_listed c.args.self.now
