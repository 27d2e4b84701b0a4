use Rattle.std.proofs.Common.{rules}
use Rattle.gtid_set.specs.Full.{IsFaultOf}
use Rattle.audit.proofs.Parts.{fault_of_one, fault_of_rest}
use Rattle.audit.proofs.skipped.take_out.Goals as goal

pub returns-in_err-one-clause-fault : goal.returns-in_err-one-clause-fault
returns-in_err-one-clause-fault c =
    let fault : IsFaultOf c.in_err-one.field-0.0 c.args.missing.now = fault_of_one c.in_err-one.field-0.0 c.args.missing.now c.args.gtid c.requires.there c.in_err-one.ensures.fault in
    search rules

pub returns-clause-fault : goal.returns-clause-fault
returns-clause-fault c = fault_of_rest c.subtract.result c.args.missing.now c.in_ok-one.one c.args.gtid c.in_ok-one.ensures.ok c.requires.there c.requires.begins c.subtract.ensures.full
