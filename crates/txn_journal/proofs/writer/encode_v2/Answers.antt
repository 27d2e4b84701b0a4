use Rattle.std.proofs.Common.{rules}
use Rattle.rows.specs.declared.limits.Limits.TheVariants.{Narrow}
use Rattle.txn_journal.proofs.WrittenLaws.{stamped_written}
use Rattle.txn_journal.proofs.writer.encode_v2.Goals as goal

pub returns-clause-writes : goal.returns-clause-writes
returns-clause-writes c = λ may. stamped_written c.into_bytes.result.items c.args.schema.now c.args.journal.now (c.journal_fits.ensures Narrow may) (search rules)
