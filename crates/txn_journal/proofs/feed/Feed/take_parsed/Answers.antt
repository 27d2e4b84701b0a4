use Rattle.std.proofs.Common.{◌++◌}
use Rattle.txn_journal.specs.Feeds.{progress}
use Rattle.txn_journal.specs.ParsedTexts.{item_text, text_in}
use Rattle.txn_journal.proofs.ParsedLaws.{item_left}
use Rattle.txn_journal.proofs.Pieces.{behind_piece, piece_fails, piece_taken}
use Rattle.txn_journal.proofs.feed.Feed.take_parsed.Goals as goal

pub parsed-preserved : goal.parsed-preserved
parsed-preserved g c =
    let rest = c.into_parts-items.result.1.now in
    let left = text_in c.parsed.items.items ++ rest in
    let more = c.pop_front.new.self.items in
    let piece = item_text c.in-Some.item in
    let parts = item_left c.parsed.items.items more c.in-Some.item rest c.in-Some.ensures.items in
    record {
      goes = c.take_item.ensures.goes;
      may = λ f h. c.parsed.invariant.may f (behind_piece g.T.TakeLine.full g.T.TakeLine.judge f (progress c.parsed.self) (progress c.take_item.new.self) left piece (text_in more ++ rest) parts c.in-Ok.ensures.next h);
      so_far = piece_taken g.T.TakeLine.judge (progress c.parsed.self) (progress c.take_item.new.self) _ left piece (text_in more ++ rest) parts c.in-Ok.ensures.next c.parsed.invariant.so_far;
    }

pub returns-in-Err-clause-next : goal.returns-in-Err-clause-next
returns-in-Err-clause-next g c =
    let rest = c.into_parts-items.result.1.now in
    let more = c.pop_front.new.self.items in
    piece_fails g.T.TakeLine.full g.T.TakeLine.judge c.in-Err.fault _ (progress c.parsed.self) (progress c.take_item.new.self) (progress c.take_item.new.self) _ (text_in c.parsed.items.items ++ rest) (item_text c.in-Some.item) (text_in more ++ rest)
    (item_left c.parsed.items.items more c.in-Some.item rest c.in-Some.ensures.items) c.in-Err.ensures.next c.parsed.invariant.so_far c.parsed.invariant.may
