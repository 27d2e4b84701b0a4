use Rattle.std.proofs.Common.{[], subst}
use Rattle.txn_journal.specs.BundleReaders.{bundle_reading}
use Rattle.binlog_bundle.specs.Logs.{terms_of}
use Rattle.binlog_bundle.specs.Refused.{IsFed, StopsAt}
use Rattle.binlog_bundle.proofs.Feeding.{start_fed}
use Rattle.binlog_bundle.proofs.Heading.{head_lines}
use Rattle.binlog_bundle.proofs.Coming.{come_head, start_refused}
use Rattle.binlog_bundle.proofs.import.import_channels.Goals as goal

pub returns-in-Err-clause-refused : goal.returns-in-Err-clause-refused
returns-in-Err-clause-refused g c =
    start_refused (terms_of c.args.grants (g.L.Logs.origin c.args.logs.now)) c.args.start.now c.in-Err.fault c.fault_in_head.result c.args.text.now c.args.head.now c.args.plain.text.items c.args.rest.now c.args.plain.passed_over c.requires.head c.requires.more c.requires.begins
    (subst (StopsAt c.in-Err.fault) c.deref.ensures.value (c.in-Err.ensures.refused [] (start_fed (bundle_reading c.start.result) c.start.ensures)))
    (c.fault_in_head.ensures c.requires.head.plain_head.lines (head_lines _ _ _ _ _ c.requires.head.plain_head))

pub take_channels-requires : goal.take_channels-requires
take_channels-requires g c =
    come_head (terms_of c.args.grants (g.L.Logs.origin c.args.logs.now)) c.args.start.now c.args.head.now c.args.plain.text.items c.args.text.now c.args.rest.now
    (record { reader = c.add.new.reader; executed = c.new.result; assumed = c.new-2.result; passed_over = c.args.plain.passed_over; notes = c.new-3.result }) c.requires.head c.requires.begins
    (subst (IsFed (bundle_reading c.add.new.reader)) c.deref.ensures.value (c.in-Ok.ensures.fed [] (start_fed (bundle_reading c.start.result) c.start.ensures))) c.new.ensures.items c.new-2.ensures.items c.new-3.ensures.items
