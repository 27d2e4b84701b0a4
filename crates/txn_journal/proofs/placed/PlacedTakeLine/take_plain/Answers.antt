use Rattle.gtid_set.specs.declared.fault.SetFault.TheVariants.{SourcesFull}
use Rattle.txn_journal.proofs.PlacedSteps.{plain_took_line, gives_full}
use Rattle.txn_journal.proofs.placed.PlacedTakeLine.take_plain.Goals as goal

pub returns-clause-line : goal.returns-clause-line
returns-clause-line g c =
    plain_took_line g.T.TakePlaces.takes g.T.TakeLine.judge g.met.T.TakePlaces.unknown c.take_plain.result c.args.self.now c.take_plain.new.self c.args.line.now c.if-self.false c.take_plain.ensures.line

pub returns-clause-room : goal.returns-clause-room
returns-clause-room g c counts full =
    c.take_plain.ensures.room counts (gives_full g.T.TakePlaces.takes g.T.TakeLine.judge g.T.TakeLine.full SourcesFull c.args.self.now c.args.line.now c.if-self.false full)
