use Rattle.binlog_frames.proofs.ReadOn.{fed_read}
use Rattle.binlog_frames.proofs.reader.FrameReader.feed.Goals as goal

pub returns-clause-read : goal.returns-clause-read
returns-clause-read c = fed_read _ _ _ _ c.add.ensures.ok
