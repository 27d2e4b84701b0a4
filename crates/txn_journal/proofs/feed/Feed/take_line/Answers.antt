use Rattle.std.proofs.Common.{◌∙◌}
use Rattle.txn_journal.proofs.Pieces.{line_ok, line_wrong, line_fault}
use Rattle.txn_journal.proofs.feed.Feed.take_line.Goals as goal

pub returns-in-Ok-clause-next : goal.returns-in-Ok-clause-next
returns-in-Ok-clause-next g c =
    line_ok g.T.TakeLine.judge c.args.self.now.stopped c.make.new.self.stopped c.args.self.now.made c.make.new.self.made c.args.self.now.lines c.make.new.self.lines c.args.self.now.rest.items c.make.new.self.rest.items c.args.bytes.now
    c.requires.goes c.make.ensures.stopped c.requires.whole c.in-Ok.ensures.made c.in-Ok.ensures.rest (c.make.ensures.lines ∙ c.saturating_add-self.ensures)

pub returns-in-Err-Wrong-clause-next : goal.returns-in-Err-Wrong-clause-next
returns-in-Err-Wrong-clause-next g c =
    line_wrong g.T.TakeLine.judge c.args.self.now.stopped c.args.self.now.made c.args.self.now.lines c.make.new.self.lines c.args.self.now.rest.items c.args.bytes.now c.in-Err-Wrong.cause
    c.requires.goes c.requires.whole (rw c.in-Err-Wrong.field-0-is at c.in-Err-Wrong.ensures.made) (c.make.ensures.lines ∙ c.saturating_add-self.ensures)

pub returns-in-Err-Set-clause-next : goal.returns-in-Err-Set-clause-next
returns-in-Err-Set-clause-next g c =
    line_fault g.T.TakeLine.full g.T.TakeLine.judge c.in-Err-Set.fault c.args.self.now.stopped c.args.self.now.made c.args.self.now.lines c.args.self.now.rest.items c.args.bytes.now
    c.requires.goes c.requires.whole (rw c.in-Err-Set.field-0-is at c.in-Err-Set.ensures.made)
