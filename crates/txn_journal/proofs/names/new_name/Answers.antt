use Rattle.txn_journal.proofs.NameLemmas.{not_text}
use Rattle.txn_journal.proofs.names.new_name.Goals as goal

pub returns-in_default : goal.returns-in_default
returns-in_default c = not_text c.args.limits c.args.word.now c.in_default.ensures.cases.0
