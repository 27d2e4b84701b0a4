use Rattle.binlog_events.proofs.Naming.{name_in}
use Rattle.binlog_events.proofs.names.TableNames.get.Goals as goal

pub returns : goal.returns
returns c = name_in c.args.self.now c.args.id c.get.result c.get.ensures.value
