use Rattle.std.proofs.Common.{length, ◌+◌}
use Rattle.txn_journal.proofs.PlacedSteps.{text_took}
use Rattle.txn_journal.proofs.placed.PlacedTakeChange.take_entry.Goals as goal

pub returns : goal.returns
returns g c =
    text_took g.T.TakePlaces.takes g.T.TakeLine.judge g.met.T.TakePlaces.unknown c.take_entry.result c.args.entry.text (length c.args.entry.changes + 2) c.args.self.now c.take_entry.new.self c.if-self.false c.take_entry.ensures
