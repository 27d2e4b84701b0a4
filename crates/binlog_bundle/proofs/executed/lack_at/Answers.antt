use Rattle.binlog_bundle.proofs.Lacking.{lack_found, lack_not_made}
use Rattle.binlog_bundle.proofs.executed.lack_at.Goals as goal

pub returns-clause-found : goal.returns-clause-found
returns-clause-found c =
    lack_found c.args.bundle.now c.args.said.now c.args.place c.in-Some.executed.now c.opening_set.result.now c.journals.result.now c.in-Some-item_at.journal.now c.lack_of.result
    c.in-Some.ensures.some c.opening_set.ensures c.journals.ensures c.in-Some-item_at.ensures c.lack_of.ensures.found

pub returns-clause-fault : goal.returns-clause-fault
returns-clause-fault c =
    lack_not_made c.args.bundle.now c.args.said.now c.args.place c.in-Some.executed.now c.opening_set.result.now c.journals.result.now c.in-Some-item_at.journal.now c.lack_of.result
    c.in-Some.ensures.some c.opening_set.ensures c.journals.ensures c.in-Some-item_at.ensures c.lack_of.ensures.fault
