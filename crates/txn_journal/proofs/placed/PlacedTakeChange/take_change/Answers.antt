use Rattle.txn_journal.proofs.PlacedSteps.{change_no_entry, change_no_place, entry_refused, change_took}
use Rattle.txn_journal.proofs.placed.PlacedTakeChange.take_change.Goals as goal

pub returns-then-self : goal.returns-then-self
returns-then-self g c =
    entry_refused g.T.TakePlaces.takes g.T.TakeLine.judge c.args.self.now c.args.line.now c.if-self.true (change_no_entry c.args.limits c.args.line.now c.args.change c.requires)

pub returns : goal.returns
returns g c =
    change_took g.T.TakePlaces.takes g.T.TakeLine.judge g.T.TakeLine.full c.take_change.result c.args.self.now c.take_change.new.self c.args.line.now c.if-self.false
    (change_no_place c.args.limits c.args.line.now c.args.change c.requires) c.take_change.ensures
