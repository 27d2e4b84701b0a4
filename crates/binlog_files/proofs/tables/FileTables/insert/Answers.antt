use Rattle.binlog_files.proofs.TableLaws.{with_table_in}
use Rattle.binlog_files.proofs.tables.FileTables.insert.Goals as goal

pub returns : goal.returns
returns c = with_table_in c.args.self.now (record { tables = c.insert.new.self }) c.args.id c.args.table c.in_ok-insert.ensures.updates
