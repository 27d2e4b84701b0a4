use Rattle.std.proofs.Common.{rules}
use Rattle.serving.specs.declared.receiving.Apply.TheVariants.{AtOnce}
use Rattle.serving.proofs.Knowing.{served_fault}
use Rattle.serving.proofs.outcome.apply_all.Goals as goal

pub returns-in_err-finish-clause-fault : goal.returns-in_err-finish-clause-fault
returns-in_err-finish-clause-fault c =
    let h = served_fault c.in_err-finish.field-0.0 AtOnce c.args.bundle.now c.in_ok-core.core c.in_ok-core.ensures.served c.in_err-finish.ensures.fault in
    search rules
