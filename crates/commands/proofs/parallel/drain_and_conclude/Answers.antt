use Rattle.std.proofs.Common.{rules, sym, subst}
use Rattle.serving.specs.Serving.{IsRun}
use Rattle.serving.proofs.Knowing.{seat_fault}
use Rattle.commands.proofs.Histories.{history_runs, history_left}
use Rattle.commands.proofs.parallel.drain_and_conclude.Goals as goal

pub conclude-requires-clause-run : goal.conclude-requires-clause-run
conclude-requires-clause-run c =
    subst (IsRun c.args.order c.args.bundle.now) (sym c.state-core.ensures.state)
    (history_runs c.args.order c.args.bundle.now c.args.book.now c.drain-drained.new.book c.requires.ready c.requires.work c.drain-drained.ensures.drains c.state-core.ensures.legal)

pub returns-clause-history : goal.returns-clause-history
returns-clause-history c =
    history_left c.args.order c.args.bundle.now c.args.book.now c.drain-drained.new.book c.requires.ready c.requires.work c.drain-drained.ensures.drains c.state-core.ensures.legal c.in_ok-drained.ensures.ends

pub returns-in_err-drained-clause-fault : goal.returns-in_err-drained-clause-fault
returns-in_err-drained-clause-fault c =
    let run = history_runs c.args.order c.args.bundle.now c.args.book.now c.drain-drained.new.book c.requires.ready c.requires.work c.drain-drained.ensures.drains c.state-core.ensures.legal in
    let commits = c.in_err-drained.ensures.fault in
    let h = seat_fault c.in_err-drained.field-0.0 c.args.order c.args.bundle.now c.drain-drained.new.book.now commits.0 run commits.1 in
    search rules
