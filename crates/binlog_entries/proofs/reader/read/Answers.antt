use Rattle.std.proofs.Common.{subst}
use Rattle.binlog_entries.specs.Stream.{Progress, IsPieceFault, IsAfter, feed_bytes}
use Rattle.binlog_entries.specs.Readers.{progress}
use Rattle.binlog_entries.proofs.Pieces.{fed_ends}
use Rattle.binlog_entries.proofs.reader.read.Goals as goal

pub returns-in-Err : goal.returns-in-Err
returns-in-Err c =
    let P : Progress → Type 0 = λ p. IsAfter (IsPieceFault p c.args.text.now) (progress c.feed.new.self) (feed_bytes p c.args.text.now) in
    fed_ends _ (progress c.feed.new.self) _ c.in-Err.fault (subst P c.start-reader.ensures c.in-Err.ensures.next) c.in-Err.ensures.answer
