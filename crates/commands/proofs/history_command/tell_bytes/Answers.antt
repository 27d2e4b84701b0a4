use Rattle.commands.proofs.Telling.{told}
use Rattle.commands.proofs.history_command.tell_bytes.Goals as goal

pub returns-clause-ok : goal.returns-clause-ok
returns-clause-ok g c = told c.args.order c.args.bytes.now c.tell_found.result c.settle_told.result c.tell_found.ensures c.settle_told.ensures.ok
