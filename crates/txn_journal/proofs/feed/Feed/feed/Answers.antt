use Rattle.std.proofs.Common.{sym, ◌∙◌}
use Rattle.txn_journal.specs.Feeds.{progress}
use Rattle.txn_journal.proofs.Pieces.{stopped_at}
use Rattle.txn_journal.proofs.feed.Feed.feed.Goals as goal

pub returns-in-Err-clause-next : goal.returns-in-Err-clause-next
returns-in-Err-clause-next g c = stopped_at g.T.TakeLine.judge _ (progress c.args.self.now) c.in-Err.earlier c.args.piece.now (sym c.answer.ensures ∙ c.in-Err.is)
