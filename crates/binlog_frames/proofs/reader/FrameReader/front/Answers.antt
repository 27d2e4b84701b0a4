use Rattle.binlog_frames.proofs.ReadOn.{front_wrong}
use Rattle.binlog_frames.proofs.reader.FrameReader.front.Goals as goal

pub returns-clause-stays : goal.returns-clause-stays
returns-clause-stays c = front_wrong c.coming.result c.args.self.now c.coming.ensures
