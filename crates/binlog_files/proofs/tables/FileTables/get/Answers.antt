use Rattle.binlog_files.proofs.TableLaws.{table_in}
use Rattle.binlog_files.proofs.tables.FileTables.get.Goals as goal

pub returns : goal.returns
returns c = table_in c.args.self.now c.args.id c.get.result c.get.ensures.value
