use Rattle.binlog_events.specs.Names.{names_in}
use Rattle.binlog_events.proofs.Listed.{fault_found}
use Rattle.binlog_events.proofs.lister.drain.Goals as goal

pub returns-in-Fault : goal.returns-in-Fault
returns-in-Fault c = λ bytes text h.
    fault_found c.args.detail c.events.frames c.take_front.new.frames (names_in c.events.names) (names_in c.take_front.new.names) c.events.out.items c.take_front.new.out.items c.in_ok-front.front c.in-Fault.fault c.in-Fault.is c.in_ok-front.ensures
    bytes text (c.events.invariant bytes text h)
