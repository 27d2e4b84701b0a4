use Rattle.std.proofs.Common.{rules}
use Rattle.rows.proofs.StepLemmas.{set_past}
use Rattle.rows.proofs.steps.write_at.Goals as goal

pub returns-else-place-len-clause-entries : goal.returns-else-place-len-clause-entries
returns-else-place-len-clause-entries c = set_past c.args.carriers.now.entries c.args.place c.args.row (search rules)
