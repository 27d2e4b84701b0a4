use Rattle.std.proofs.Common.{refl}
use Rattle.binlog_events.proofs.Listed.{new_listed}
use Rattle.binlog_events.proofs.lister.EventLister.new.Goals as goal

pub returns-clause-come : goal.returns-clause-come
returns-clause-come c = (refl, new_listed c.args.detail c.new.result _ c.new.ensures c.new-2.ensures)
