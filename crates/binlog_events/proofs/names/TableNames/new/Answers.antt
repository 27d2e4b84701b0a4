use Rattle.binlog_events.proofs.Naming.{no_names_in}
use Rattle.binlog_events.proofs.names.TableNames.new.Goals as goal

pub returns : goal.returns
returns c = no_names_in (record { names = c.new.result }) c.new.ensures.empty
