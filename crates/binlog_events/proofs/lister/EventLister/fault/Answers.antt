use Rattle.binlog_events.specs.Names.{names_in}
use Rattle.binlog_events.proofs.Listed.{ended}
use Rattle.binlog_events.proofs.lister.EventLister.fault.Goals as goal

pub returns-in-Some : goal.returns-in-Some
returns-in-Some c = λ d bytes text h. ended d c.args.self.now.fault c.in-Some.fault c.args.self.now.frames (names_in c.args.self.now.names) bytes text c.in-Some.is h.1
