use Rattle.std.proofs.Common.{rules}
use Rattle.auto_position.specs.Sending.{IsPlanFault}
use Rattle.auto_position.proofs.Asked.{unknown_known, unpurged_edges, left_edges, if_crowded}
use Rattle.auto_position.proofs.unknown_gtids.Goals as goal

pub returns-clause-ok : goal.returns-clause-ok
returns-clause-ok c = unknown_known c.args.ask.now c.args.journal.now c.args.own c.in_ok-asked.asked c.in_ok-unpurged.unpurged c.in_ok-recorded.recorded c.previous.result.now c.entries.result.now c.subtract-2.result c.in_ok-asked.ensures.ok c.in_ok-unpurged.ensures.ok c.in_ok-recorded.ensures.ok c.previous.ensures c.entries.ensures c.subtract-2.ensures.ok

pub returns-in_err-unpurged-clause-fault : goal.returns-in_err-unpurged-clause-fault
returns-in_err-unpurged-clause-fault c =
    let fault : IsPlanFault c.args.journal.now c.args.ask.now c.in_err-unpurged.field-0.0 =
    unpurged_edges c.args.journal.now c.args.ask.now c.args.own c.in_err-unpurged.field-0.0 c.in_ok-asked.asked c.previous.result.now c.in_ok-asked.ensures.ok c.previous.ensures c.in_err-unpurged.ensures.full in
    search rules

pub returns-clause-fault : goal.returns-clause-fault
returns-clause-fault c =
    if_crowded c.subtract-2.result _ (IsPlanFault c.args.journal.now c.args.ask.now)
    (λ f h. left_edges c.args.journal.now c.args.ask.now c.args.own f c.in_ok-asked.asked c.in_ok-unpurged.unpurged c.in_ok-recorded.recorded c.previous.result.now c.entries.result.now c.in_ok-asked.ensures.ok c.in_ok-unpurged.ensures.ok c.in_ok-recorded.ensures.ok c.previous.ensures c.entries.ensures h)
    c.subtract-2.ensures.full
