use Rattle.std.proofs.Common.{◌≡◌, ◌+◌, ◌++◌, ◌∷◌, [], take, false, ap, ◌∙◌}
use Rattle.std.specs.Prelude.{None}
use Rattle.apply_channel.specs.Channels.{Keyed, with_received}
use Rattle.apply_channel.specs.Kept.{received_of}
use Rattle.apply_channel.proofs.Same.{take_entry}
use Rattle.apply_channel.proofs.channel.Channel.copy.Goals as goal

pub loop-slot-preserved : goal.loop-slot-preserved
loop-slot-preserved c =
    let all = c.args.self.now.channel.received in
    let i = c.loop-slot.slot-index in
    let x = c.slot-item.result in
    let more : take i all ++ received_of x ∷ [] ≡ take (i + 1) all = take_entry c.self.inside.slots.items c.deref-slot-items.result.now all i x c.deref-slot-items.ensures.value (ap (λ (k : Keyed). k.channel.received) c.self.view_is) c.slot-item.is c.loop-slot-test.true in
    c.in_ok-put_slot.ensures
    ∙ ap (λ (k : Keyed). record k { channel = with_received (received_of x) k.channel }) c.loop-slot.invariant
    ∙ (λ j. record {
      schema = c.args.self.now.schema;
      channel = record { name = c.args.self.now.channel.name; preserve = c.args.self.now.channel.preserve; stopped = false; asked = None; received = more j };
    })
