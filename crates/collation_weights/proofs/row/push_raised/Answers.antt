use Rattle.std.proofs.Common.{arith}
use Rattle.std.proofs.lemmas.Grind.{common_steps}
use Rattle.collation_weights.proofs.Raising.{raised_of_last, raised_of_none}
use Rattle.collation_weights.proofs.row.push_raised.Goals as goal

pub returns-in-None : goal.returns-in-None
returns-in-None c =
    let none = raised_of_none c.args.weights.now c.args.by c.in-None.ensures.cases in
    grind (arith, common_steps, none)

pub returns-in_ok-push-in-Some : goal.returns-in_ok-push-in-Some
returns-in_ok-push-in-Some c =
    let last = raised_of_last c.args.weights.now c.in-Some.before.now c.in-Some.last.now c.args.by c.in-Some.ensures.cases in
    grind (arith, common_steps, last)
