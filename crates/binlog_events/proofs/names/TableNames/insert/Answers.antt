use Rattle.binlog_events.proofs.Naming.{with_name_in}
use Rattle.binlog_events.proofs.names.TableNames.insert.Goals as goal

pub returns : goal.returns
returns c = with_name_in c.args.self.now (record { names = c.insert.new.self }) c.args.id c.args.table c.in_ok-insert.ensures.updates
