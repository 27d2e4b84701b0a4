use Rattle.std.proofs.Common.{rules}
use Rattle.replica_core.specs.declared.event.Event.TheVariants.{Take, Commit}
use Rattle.serving.specs.declared.receiving.Apply.TheVariants.{AtOnce}
use Rattle.serving.proofs.Knowing.{commit_fault, later_fault}
use Rattle.serving.proofs.Runs.{applies_step, applies_more}
use Rattle.serving.proofs.Settling.{settles}
use Rattle.serving.proofs.working.work_at.Goals as goal

pub returns-clause-applies : goal.returns-clause-applies
returns-clause-applies c =
    let core = c.args.core.now in
    let taken = c.step.new.self in
    applies_more AtOnce core taken c.step-2.new.self
    (applies_step AtOnce core taken c.in_ok-step.field-0 (Take 1 c.args.channel c.args.place) tt c.step.ensures.site c.in_ok-step.ensures.ok)
    (applies_step AtOnce taken c.step-2.new.self c.in_ok-step-2.field-0 (Commit 1) tt c.step-2.ensures.site c.in_ok-step-2.ensures.ok)

pub returns-in_err-step-2-clause-fault : goal.returns-in_err-step-2-clause-fault
returns-in_err-step-2-clause-fault c =
    let core = c.args.core.now in
    let taken = c.step.new.self in
    let f = c.in_err-step-2.field-0.0 in
    let h =
    later_fault f AtOnce core taken (applies_step AtOnce core taken c.in_ok-step.field-0 (Take 1 c.args.channel c.args.place) tt c.step.ensures.site c.in_ok-step.ensures.ok)
    (commit_fault f taken.state 1 c.in_err-step-2.ensures.fault.cause)
    in
    search rules

pub returns-clause-settles : goal.returns-clause-settles
returns-clause-settles c =
    settles c.args.core.now.site c.step.new.self.site c.args.core.now.state c.step.new.self.state c.step-2.new.self.state c.in_ok-step.field-0 c.in_ok-step-2.field-0 c.args.channel c.args.place
    (c.is_waiting.ensures.open (search rules)) c.entries_are_kept.ensures c.step.ensures.site c.in_ok-step.ensures.ok c.in_ok-step-2.ensures.ok
