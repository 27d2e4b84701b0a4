use Rattle.std.proofs.Common.{rules}
use Rattle.serving.specs.declared.receiving.Apply.TheVariants.{AtOnce}
use Rattle.serving.proofs.Knowing.{later_fault}
use Rattle.serving.proofs.working.work_on.Goals as goal

pub returns-in_err-work_at-clause-fault : goal.returns-in_err-work_at-clause-fault
returns-in_err-work_at-clause-fault c =
    let h = later_fault c.in_err-work_at.field-0.0 AtOnce c.args.core.now c.loop-place.core c.loop-place.invariant.applies c.in_err-work_at.ensures.fault in
    search rules
