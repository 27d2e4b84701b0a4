use Rattle.network.proofs.SlotLemmas.{sources_of-free, sources_of-beyond}
use Rattle.network.proofs.slots.free.Goals as goal

pub returns-then-channel-slots : goal.returns-then-channel-slots
returns-then-channel-slots c = sources_of-free c.args.slots.now c.args.channel c.if-channel-slots.true

pub returns-else-channel-slots : goal.returns-else-channel-slots
returns-else-channel-slots c = sources_of-beyond c.args.slots.now c.args.channel c.if-channel-slots.false
