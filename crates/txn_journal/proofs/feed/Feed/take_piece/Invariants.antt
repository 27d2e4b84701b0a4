use Rattle.std.proofs.Common.{◌≡◌, None, length}
use Rattle.gtid_set.specs.declared.fault.SetFault.{SetFault}
use Rattle.txn_journal.specs.Stream.{feed_bytes, IsPieceFault}
use Rattle.txn_journal.specs.Feeds.{progress}
use Rattle.txn_journal.proofs.FirstLines.{IsAtFirst}
use Rattle.txn_journal.proofs.feed.Feed.take_piece.Given as goal

abbrev pub invariant-lines : goal.invariant-lines
invariant-lines g l = record {
  goes : l.self.stopped ≡ None;
  may : (f : SetFault) → IsPieceFault g.T.TakeLine.full g.T.TakeLine.judge (progress l.self) l.left f → IsPieceFault g.T.TakeLine.full g.T.TakeLine.judge (progress l.fn.self) l.fn.piece f;
  so_far : feed_bytes g.T.TakeLine.judge (progress l.self) l.left ≡ feed_bytes g.T.TakeLine.judge (progress l.fn.self) l.fn.piece;
  first : IsAtFirst g.T.TakeLine.counts g.T.TakeLine.full g.T.TakeLine.judge (progress l.fn.self) l.fn.piece (progress l.self) l.left;
}

abbrev pub decreases-lines : goal.decreases-lines
decreases-lines g l = length l.left
