use Rattle.commands.proofs.Explaining.{settled}
use Rattle.commands.proofs.explain_command.explain_bytes.Goals as goal

pub returns-clause-ok : goal.returns-clause-ok
returns-clause-ok c = settled c.args.order c.args.bytes.now c.explain_found.result c.settle_explained.result c.explain_found.ensures c.settle_explained.ensures.ok
