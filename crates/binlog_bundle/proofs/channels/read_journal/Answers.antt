use Rattle.std.proofs.Common.{List, subst, ap, ◌∙◌}
use Rattle.gtid_set.specs.Sets.{Gtids}
use Rattle.binlog_bundle.specs.Accepted.{accepted_in}
use Rattle.binlog_bundle.specs.Logs.{terms_of}
use Rattle.binlog_bundle.proofs.Bringing.{not_written}
use Rattle.binlog_bundle.proofs.channels.read_journal.Goals as goal

pub returns-in-Ok-write_journal-clause-found : goal.returns-in-Ok-write_journal-clause-found
returns-in-Ok-write_journal-clause-found g c =
    let log = c.in-Ok.read.log in
    record {
      previous = log.previous;
      entries = log.entries.items;
      varied = log.varied.items;
      log = subst (λ (opening : Gtids). (g.L.Logs.origin c.args.logs.now).is_log c.args.name.now c.args.log.now opening log.previous log.entries.items log.varied.items) c.opening_set.ensures c.in-Ok.ensures.found;
      writes = c.in-Ok-write_journal.ensures.written;
      answered = c.in-Ok-write_journal.ensures.statements ∙ ap (λ (accepted : Gtids). accepted_in accepted log.entries.items) c.accepted.ensures;
    }

pub returns-in-Err-write_journal-clause-refused : goal.returns-in-Err-write_journal-clause-refused
returns-in-Err-write_journal-clause-refused g c before =
    let log = c.in-Ok.read.log in
    not_written (terms_of c.args.grants (g.L.Logs.origin c.args.logs.now)) c.args.start.now c.args.name.now c.args.log.now c.in-Err-write_journal.fault log.previous log.entries.items log.varied.items
    (subst (λ (opening : Gtids). (g.L.Logs.origin c.args.logs.now).is_log c.args.name.now c.args.log.now opening log.previous log.entries.items log.varied.items) c.opening_set.ensures c.in-Ok.ensures.found)
    c.in-Err-write_journal.ensures.refused
