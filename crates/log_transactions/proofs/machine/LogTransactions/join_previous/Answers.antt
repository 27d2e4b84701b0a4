use Rattle.log_transactions.proofs.JoinLaws.{part_numbers}
use Rattle.log_transactions.proofs.machine.LogTransactions.join_previous.Goals as goal

pub invariant_of-self-clause-numbers : goal.invariant_of-self-clause-numbers
invariant_of-self-clause-numbers c = part_numbers c.args.self.now.previous c.join.new.whole c.args.gtids.now c.join.ensures.part c.args.self.now.numbers c.requires
