use Rattle.std.proofs.Common.{ℕ, List, ◌++◌, subst}
use Rattle.rows.specs.declared.schema.Table.{Table}
use Rattle.binlog_bundle.specs.Channels.{IsJournalFault}
use Rattle.binlog_bundle.specs.Logs.{terms_of}
use Rattle.binlog_bundle.specs.Refused.{StopsAt}
use Rattle.binlog_bundle.proofs.Bringing.{cant_bring}
use Rattle.binlog_bundle.proofs.channels.take_log.Goals as goal

pub returns-in-Err-clause-refused : goal.returns-in-Err-clause-refused
returns-in-Err-clause-refused g c before fed = c.in-Err.ensures.refused before

pub returns-in-Err-add-clause-refused : goal.returns-in-Err-add-clause-refused
returns-in-Err-add-clause-refused g c before fed =
    let read = c.in-Ok.read in
    cant_bring (terms_of c.args.grants (g.L.Logs.origin c.args.logs.now)) c.args.start.now c.args.name.now c.args.log.now before c.in-Err-add.fault c.journal_fault.result
    (record {
      journal = read.journal.text.items;
      varied = read.journal.varied.items;
      statements = read.statements;
      imports = c.in-Ok.ensures.found;
      stops = subst (λ (xs : List ℕ). StopsAt c.in-Err-add.fault (before ++ xs)) c.deref.ensures.value (c.in-Err-add.ensures.refused before fed);
    })
    (subst (λ (tables : List Table). IsJournalFault tables c.args.log.now c.in-Err-add.fault c.journal_fault.result) c.schema.ensures c.journal_fault.ensures)
