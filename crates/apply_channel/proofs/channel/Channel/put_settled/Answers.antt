use Rattle.std.proofs.Common.{rules, ◌≡◌, ◌<◌, false, [], ◌∷◌, ◌++◌, None, length, refl, sym, ap, subst, ◌∙◌}
use Rattle.apply_channel.specs.Slots.{Placed, placed}
use Rattle.apply_channel.specs.Channels.{Keyed, is_full, are_settled}
use Rattle.apply_channel.specs.Kept.{entries_of}
use Rattle.apply_channel.proofs.Nodes.{nodes_length, all_finished}
use Rattle.apply_channel.proofs.Receiving.{room_left, kept_settled}
use Rattle.apply_channel.proofs.channel.Channel.put_settled.Goals as goal

pub add_finished-requires-clause-room : goal.add_finished-requires-clause-room
add_finished-requires-clause-room c =
    let s = c.self.inside in
    let left : length (entries_of s.slots.items) < 4294967294 = room_left (length (entries_of s.slots.items)) (subst (λ (k : Keyed). is_full k.channel ≡ false) (sym c.self.view_is) c.requires.room) in
    subst (λ n. n < 4294967294) (sym (nodes_length s.schema s.graph (entries_of s.slots.items) c.self.invariant.nodes)) left

pub add_finished-requires-clause-finished : goal.add_finished-requires-clause-finished
add_finished-requires-clause-finished c =
    let s = c.self.inside in
    all_finished s.schema s.graph (entries_of s.slots.items) c.self.invariant.nodes (ap (λ (k : Keyed). are_settled k.channel.received) c.self.view_is ∙ c.requires.settled)

pub invariant_of-self-2 : goal.invariant_of-self-2
invariant_of-self-2 c =
    let s = c.self.inside in
    let y : Placed = placed c.args.gtid None None in
    let is : c.push.new.self.items ≡ s.slots.items ++ y ∷ [] = search rules in
    kept_settled s.schema s.slots.items s.places.entries s.graph s.received c.self.invariant y c.push.new.self.items is refl c.add_finished.new.self c.add_finished.ensures c.add.new.self c.in_ok-add.ensures.ok
