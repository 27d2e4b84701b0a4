use Rattle.std.proofs.Common.{List, subst}
use Rattle.rows.specs.declared.schema.Table.{Table}
use Rattle.binlog_entries.specs.Imports.{IsWritten, IsNotWritten}
use Rattle.binlog_bundle.proofs.channels.write_journal.Goals as goal

pub returns-in-Ok-accepted_in-clause-written : goal.returns-in-Ok-accepted_in-clause-written
returns-in-Ok-accepted_in-clause-written c =
    let log = c.args.read.log in
    subst (λ (tables : List Table). IsWritten tables c.args.grants.bytes log.previous log.entries.items log.varied.items c.in-Ok.journal.text.items c.in-Ok.journal.varied.items) c.schema.ensures c.in-Ok.ensures.found

pub returns-in-Err-clause-refused : goal.returns-in-Err-clause-refused
returns-in-Err-clause-refused c =
    let log = c.args.read.log in
    subst (λ (tables : List Table). IsNotWritten tables c.args.grants.bytes log.previous log.entries.items log.varied.items c.in-Err.fault) c.schema.ensures c.in-Err.ensures.refused
