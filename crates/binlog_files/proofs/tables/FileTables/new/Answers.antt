use Rattle.binlog_files.proofs.TableLaws.{no_tables_in}
use Rattle.binlog_files.proofs.tables.FileTables.new.Goals as goal

pub returns : goal.returns
returns c = no_tables_in (record { tables = c.new.result }) c.new.ensures.empty
