use Rattle.std.proofs.Common.{rules}
use Rattle.rows.specs.declared.limits.Limits.TheVariants.{Narrow}
use Rattle.txn_journal.proofs.WrittenLaws.{spelled_written}
use Rattle.txn_journal.proofs.writer.encode.Goals as goal

pub returns-clause-writes : goal.returns-clause-writes
returns-clause-writes c = λ may. spelled_written c.into_bytes.result.items c.args.journal.now (c.journal_fits.ensures Narrow may) (search rules)
