use Rattle.commands.proofs.parallel.apply_journals.Goals as goal

pub returns-in-State-clause-applied : goal.returns-in-State-clause-applied
returns-in-State-clause-applied g c =
    let worked = c.in_ok-worked.ensures.worked in
    c.book_or_verdict.ensures c.args.order c.args.bundle.now (rw c.in-State.is at worked).concluded
