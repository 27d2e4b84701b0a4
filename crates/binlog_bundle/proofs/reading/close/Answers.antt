use Rattle.std.proofs.Common.{◌++◌}
use Rattle.txn_journal.specs.BundleReaders.{bundle_reading}
use Rattle.binlog_bundle.proofs.Feeding.{closed_found, closed_refused, refused_all}
use Rattle.binlog_bundle.proofs.reading.close.Goals as goal

pub returns-in-Ok-clause-found : goal.returns-in-Ok-clause-found
returns-in-Ok-clause-found c before fed = closed_found (before ++ c.args.piece.now) (bundle_reading c.add.new.reader) c.finish.result c.finish.ensures (c.in-Ok.ensures.fed before fed)

pub returns-in-Ok-clause-refused : goal.returns-in-Ok-clause-refused
returns-in-Ok-clause-refused c before fed = closed_refused (before ++ c.args.piece.now) (bundle_reading c.add.new.reader) c.finish.result c.finish.ensures (c.in-Ok.ensures.fed before fed)

pub returns-in-Err-clause-refused : goal.returns-in-Err-clause-refused
returns-in-Err-clause-refused c before fed = refused_all c.in-Err.fault (before ++ c.args.piece.now) (c.in-Err.ensures.refused before fed)
