use Rattle.network.proofs.ReaderLemmas.{AreMovedTo}
use Rattle.network.proofs.reader.move_slots.Given as goal

abbrev pub invariant-loop-channel : goal.invariant-loop-channel
invariant-loop-channel l = AreMovedTo l.channel l.node.sources l.source l.count l.initial.places l.places
