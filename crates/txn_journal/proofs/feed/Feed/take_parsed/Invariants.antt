use Rattle.std.proofs.Common.{◌≡◌, ◌++◌, None, length}
use Rattle.gtid_set.specs.declared.fault.SetFault.{SetFault}
use Rattle.txn_journal.specs.Stream.{feed_bytes, IsPieceFault}
use Rattle.txn_journal.specs.Feeds.{progress}
use Rattle.txn_journal.specs.ParsedTexts.{text_in}
use Rattle.txn_journal.proofs.feed.Feed.take_parsed.Given as goal

abbrev pub invariant-parsed : goal.invariant-parsed
invariant-parsed g l =
    let left = text_in l.items.items ++ l.rest in
    record {
      goes : l.self.stopped ≡ None;
      may : (f : SetFault) → IsPieceFault g.T.TakeLine.full g.T.TakeLine.judge (progress l.self) left f → IsPieceFault g.T.TakeLine.full g.T.TakeLine.judge (progress l.fn.self) l.fn.piece f;
      so_far : feed_bytes g.T.TakeLine.judge (progress l.self) left ≡ feed_bytes g.T.TakeLine.judge (progress l.fn.self) l.fn.piece;
    }

abbrev pub decreases-parsed : goal.decreases-parsed
decreases-parsed g l = length l.items.items
