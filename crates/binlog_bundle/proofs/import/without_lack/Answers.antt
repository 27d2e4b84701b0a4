use Rattle.std.proofs.Common.{Option, subst}
use Rattle.binlog_bundle.specs.Logs.{terms_of}
use Rattle.binlog_bundle.specs.Executed.{IsFirstLack}
use Rattle.binlog_bundle.specs.declared.executed.Lack.{Lack}
use Rattle.binlog_bundle.proofs.Coming.{within_found, lack_refused, lack_not_made}
use Rattle.binlog_bundle.proofs.import.without_lack.Goals as goal

pub returns-in-Ok-None-clause-found : goal.returns-in-Ok-None-clause-found
returns-in-Ok-None-clause-found g c =
    within_found (terms_of c.args.grants (g.L.Logs.origin c.args.logs.now)) c.args.text.now c.args.bundle c.args.executed.now c.args.notes.items c.requires
    (subst (λ (o : Option Lack). IsFirstLack c.args.bundle c.args.executed.now o) c.in-Ok-None.field-0-is c.in-Ok-None.ensures.found)

pub returns-in-Ok-Some-clause-refused : goal.returns-in-Ok-Some-clause-refused
returns-in-Ok-Some-clause-refused g c =
    lack_refused (terms_of c.args.grants (g.L.Logs.origin c.args.logs.now)) c.args.text.now c.args.bundle c.args.executed.now c.args.notes.items c.in-Ok-Some.lack.channel c.in-Ok-Some.lack.missing c.requires
    (subst (λ (o : Option Lack). IsFirstLack c.args.bundle c.args.executed.now o) c.in-Ok-Some.field-0-is c.in-Ok-Some.ensures.found)

pub returns-in-Err-clause-refused : goal.returns-in-Err-clause-refused
returns-in-Err-clause-refused g c = lack_not_made (terms_of c.args.grants (g.L.Logs.origin c.args.logs.now)) c.in-Err.fault c.args.text.now c.args.bundle c.args.executed.now c.args.notes.items c.requires c.in-Err.ensures.fault
