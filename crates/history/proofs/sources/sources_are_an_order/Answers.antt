use Rattle.history.proofs.Same.{same_content, same_gtids, same_sound, same_closed, same_faithful}
use Rattle.history.proofs.SourceWriting.{same_writer}
use Rattle.history.proofs.sources.sources_are_an_order.Goals as goal

pub returns : goal.returns
returns c = record { contents = same_content; gtids = same_gtids; sound = same_sound; closed = same_closed; faithful = same_faithful; writers = same_writer }
