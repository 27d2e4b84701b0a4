use Rattle.std.proofs.Common.{sym, ◌∙◌}
use Rattle.binlog_files.proofs.Numbered.{read_number}
use Rattle.binlog_files.proofs.taking.TakenEvents.begin_transaction.Goals as goal

pub name-requires : goal.name-requires
name-requires c = read_number c.args.body.now c.in-Some.gtid (sym c.in-Some.is ∙ c.gtid_of.ensures)
