use Rattle.std.proofs.Common.{arith}
use Rattle.network.proofs.ReaderLemmas.{all_moved}
use Rattle.network.proofs.reader.move_slots.Goals as goal

pub returns : goal.returns
returns c = all_moved c.loop-channel.channel c.args.node.now.sources c.args.source c.args.count c.args.places.now c.loop-channel.places (omega (c.loop-channel-test.false, c.loop-channel.auto.channel-end, c.loop-channel.invariant.length_is, arith)) c.loop-channel.invariant
