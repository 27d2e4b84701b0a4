use Rattle.std.proofs.Common.{ℕ, Bool, List, ◌++◌, ◌∙◌, ap, sym, subst}
use Rattle.txn_journal.specs.BundleReaders.{bundle_reading}
use Rattle.binlog_bundle.specs.Logs.{terms_of}
use Rattle.binlog_bundle.specs.Lines.{with_line_feed}
use Rattle.txn_journal.specs.BundleReading.{BundleProgress}
use Rattle.binlog_bundle.specs.Assumed.{assumed_of}
use Rattle.binlog_bundle.specs.Notes.{name_in}
use Rattle.binlog_bundle.specs.Channels.{Stops, FeedsLog, CantFeedLog}
use Rattle.binlog_bundle.proofs.Feeding.{is_taken}
use Rattle.binlog_bundle.proofs.Bringing.{had_executed, word_refused, log_refused, part_refused}
use Rattle.binlog_bundle.proofs.channels.take_channel.Goals as goal

pub returns-in-Err-clause-refused : goal.returns-in-Err-clause-refused
returns-in-Err-clause-refused g c before fed = Stops c.cut_executed.result.0.now _ c.cut_executed.ensures (c.in-Err.ensures.refused before fed)

pub returns-in-Err-executed_of-clause-refused : goal.returns-in-Err-executed_of-clause-refused
returns-in-Err-executed_of-clause-refused g c before fed =
    let own = c.cut_executed.result.0.now in
    word_refused (terms_of c.args.grants (g.L.Logs.origin c.args.logs.now)) c.args.start.now c.args.line.now c.args.log.now before own _ c.in-Err-executed_of.fault
    (record { cut = c.cut_executed.ensures; taken = is_taken (before ++ with_line_feed own) (bundle_reading c.add_line.new.reader) (c.in-Ok.ensures.fed before fed) }) c.in-Err-executed_of.ensures.refused

pub returns-in-Err-take_log-clause-refused : goal.returns-in-Err-take_log-clause-refused
returns-in-Err-take_log-clause-refused g c before fed =
    let own = c.cut_executed.result.0.now in
    let come = c.in-Ok.ensures.fed before fed in
    log_refused (terms_of c.args.grants (g.L.Logs.origin c.args.logs.now)) c.args.start.now c.args.line.now c.args.log.now before own c.in-Ok-executed_of.executed c.in-Err-take_log.fault
    (record { says = had_executed (terms_of c.args.grants (g.L.Logs.origin c.args.logs.now)) c.args.line.now own _ c.in-Ok-executed_of.executed c.cut_executed.ensures c.in-Ok-executed_of.ensures.found; taken = is_taken (before ++ with_line_feed own) (bundle_reading c.add_line.new.reader) come })
    (subst (λ (name : List ℕ). CantFeedLog (terms_of c.args.grants (g.L.Logs.origin c.args.logs.now)) c.args.start.now name c.args.log.now (before ++ with_line_feed own) c.in-Err-take_log.fault) c.name_in.ensures (c.in-Err-take_log.ensures.refused (before ++ with_line_feed own) come))

pub returns-in-Ok-keep_channel-clause-fed : goal.returns-in-Ok-keep_channel-clause-fed
returns-in-Ok-keep_channel-clause-fed g c =
    let own = c.cut_executed.result.0.now in
    let executed = c.in-Ok-executed_of.executed in
    record {
      own = own;
      executed = executed;
      varied = c.in-Ok-take_log.read.journal.varied.items;
      statements = c.in-Ok-take_log.read.statements;
      says = had_executed (terms_of c.args.grants (g.L.Logs.origin c.args.logs.now)) c.args.line.now own _ executed c.cut_executed.ensures c.in-Ok-executed_of.ensures.found;
      middle = bundle_reading c.add_line.new.reader;
      fed = c.in-Ok.ensures.fed;
      brings = subst (λ (p : BundleProgress). FeedsLog (terms_of c.args.grants (g.L.Logs.origin c.args.logs.now)) c.args.start.now (name_in own) c.args.log.now (bundle_reading c.add_line.new.reader) p c.in-Ok-take_log.read.journal.varied.items c.in-Ok-take_log.read.statements) (sym c.keep_channel.ensures.reader)
          (subst (λ (name : List ℕ). FeedsLog (terms_of c.args.grants (g.L.Logs.origin c.args.logs.now)) c.args.start.now name c.args.log.now (bundle_reading c.add_line.new.reader) (bundle_reading c.take_log.new.reader) c.in-Ok-take_log.read.journal.varied.items c.in-Ok-take_log.read.statements) c.name_in.ensures c.in-Ok-take_log.ensures.fed);
      said = c.in-Ok-keep_channel.ensures.said;
      assumed =
          c.in-Ok-keep_channel.ensures.assumed
          ∙ ap (λ (unchecked : Bool). c.args.progress.now.assumed.items ++ assumed_of (name_in own) c.args.start.now.opened executed unchecked c.in-Ok-take_log.read.statements) (c.in-Ok-take_log.ensures.unchecked ∙ ap (g.L.Logs.origin c.args.logs.now).is_unchecked c.name_in.ensures);
      noted = c.in-Ok-keep_channel.ensures.noted;
      same_head = c.keep_channel.ensures.head;
    }

pub returns-clause-refused : goal.returns-clause-refused
returns-clause-refused g c before fed =
    let own = c.cut_executed.result.0.now in
    part_refused (terms_of c.args.grants (g.L.Logs.origin c.args.logs.now)) c.args.start.now c.args.line.now before own c.in-Ok-executed_of.executed c.in-Err-keep_channel.fault
    (record { says = had_executed (terms_of c.args.grants (g.L.Logs.origin c.args.logs.now)) c.args.line.now own _ c.in-Ok-executed_of.executed c.cut_executed.ensures c.in-Ok-executed_of.ensures.found; taken = is_taken (before ++ with_line_feed own) (bundle_reading c.add_line.new.reader) (c.in-Ok.ensures.fed before fed) })
    c.in-Err-keep_channel.ensures.fault
