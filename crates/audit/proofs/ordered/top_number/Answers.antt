use Rattle.std.proofs.Common.{sym}
use Rattle.audit.proofs.ordered.top_number.Goals as goal

pub returns-in-Some : goal.returns-in-Some
returns-in-Some c = λ es are. are c.args.source c.in-Some.number.now (sym c.in-Some.ensures.value)
