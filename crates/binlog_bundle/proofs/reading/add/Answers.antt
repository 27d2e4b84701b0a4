use Rattle.txn_journal.specs.BundleReaders.{bundle_reading}
use Rattle.binlog_bundle.proofs.Feeding.{piece_fed, piece_refused}
use Rattle.binlog_bundle.proofs.reading.add.Goals as goal

pub returns-clause-fed : goal.returns-clause-fed
returns-clause-fed c before = piece_fed before c.args.piece.now (bundle_reading c.args.reader.now) (bundle_reading c.feed.new.self) c.feed.result c.feed.ensures.next c.feed.ensures.answer

pub returns-clause-refused : goal.returns-clause-refused
returns-clause-refused c before = piece_refused before c.args.piece.now (bundle_reading c.args.reader.now) (bundle_reading c.feed.new.self) c.feed.result c.feed.ensures.next c.feed.ensures.answer
