use Rattle.rows.specs.declared.limits.Limits.TheVariants.{Wide}
use Rattle.txn_journal.proofs.NameLemmas.{not_text}
use Rattle.binlog_bundle.proofs.names.table_name.Goals as goal

pub returns-in_default : goal.returns-in_default
returns-in_default c = not_text Wide c.args.word.now c.in_default.ensures.cases.0
