use Rattle.std.proofs.Common.{rules, arith, ℕ, suc, ◌≡◌, ◌<◌, false, List, [], ◌∷◌, ◌++◌, length, sym, ap, subst, ◌∙◌}
use Rattle.std.specs.Prelude.{Option, Some, None, if◌then◌else◌}
use Rattle.dependency_graph.specs.Graphs.{Point, finish_at}
use Rattle.rows.specs.declared.change.Transaction.{Transaction}
use Rattle.apply_channel.specs.Slots.{Placed, placed}
use Rattle.apply_channel.specs.Channels.{Keyed, is_full}
use Rattle.apply_channel.specs.Kept.{entries_of, AreKeysOf, place_of}
use Rattle.std.specs.Option.{option_map_or}
use Rattle.apply_channel.proofs.Slots.{entries_length}
use Rattle.apply_channel.proofs.LastPlaces.{below_of}
use Rattle.apply_channel.proofs.Nodes.{nodes_length}
use Rattle.apply_channel.proofs.Receiving.{before_in, room_left, below_more, kept_done, kept_open}
use Rattle.apply_channel.proofs.channel.Channel.put.Goals as goal

pub new-requires : goal.new-requires
new-requires c =
    let s = c.self.inside in
    let g = c.args.entry.now.gtid in
    let left : length (entries_of s.slots.items) < 4294967294 = room_left (length (entries_of s.slots.items)) (subst (λ (k : Keyed). is_full k.channel ≡ false) (sym c.self.view_is) c.requires) in
    let size = entries_length s.slots.items in
    let below = below_of g (entries_of s.slots.items) (length s.slots.items) (place_of s.places.entries g) (c.self.invariant.last g) in
    let same : option_map_or suc c.in_ok-earlier.earlier 0 ≡ option_map_or suc (place_of s.places.entries g) 0 = ap (λ (o : Option ℕ). option_map_or suc o 0) (c.in_ok-earlier.ensures.place ∙ c.open_unless.ensures.same g) in
    omega (left, size, below, same, arith)

pub put_node-requires-clause-room : goal.put_node-requires-clause-room
put_node-requires-clause-room c =
    let s = c.self.inside in
    let left : length (entries_of s.slots.items) < 4294967294 = room_left (length (entries_of s.slots.items)) (subst (λ (k : Keyed). is_full k.channel ≡ false) (sym c.self.view_is) c.requires) in
    subst (λ n. n < 4294967294) (sym (nodes_length s.schema s.graph (entries_of s.slots.items) c.self.invariant.nodes)) left

pub finish-requires : goal.finish-requires
finish-requires c =
    let s = c.self.inside in
    let y : Placed = placed c.args.entry.now.gtid c.in_ok-txn.txn c.in_ok-earlier.earlier in
    let before = before_in c.args.entry.now.gtid c.in_ok-txn.txn c.in_ok-earlier.earlier (place_of c.open_unless.new.places.entries) c.in_ok-earlier.ensures.place in
    let pushed : c.push.new.self.items ≡ s.slots.items ++ y ∷ [] = c.in_ok-push.ensures.items ∙ ap (λ (x : Placed). s.slots.items ++ x ∷ []) c.new.ensures in
    let at : c.len-place.result ≡ length s.slots.items = search rules in
    subst (λ (ps : List Point). c.len-place.result < length ps) (sym c.in-Ok.ensures.graph)
    (below_more s.schema s.slots.items s.places.entries c.open_unless.new.places.entries s.graph s.received c.self.invariant c.open_unless.ensures.same y before
    c.push.new.self.items pushed c.len-place.result at c.in_ok-keys.keys.items c.put_node.new.received c.in-Ok.ensures.received)

pub invariant_of-self-then-executed : goal.invariant_of-self-then-executed
invariant_of-self-then-executed c =
    let s = c.self.inside in
    let y : Placed = placed c.args.entry.now.gtid c.in_ok-txn.txn c.in_ok-earlier.earlier in
    let before = before_in c.args.entry.now.gtid c.in_ok-txn.txn c.in_ok-earlier.earlier (place_of c.open_unless.new.places.entries) c.in_ok-earlier.ensures.place in
    let pushed : c.push.new.self.items ≡ s.slots.items ++ y ∷ [] = c.in_ok-push.ensures.items ∙ ap (λ (x : Placed). s.slots.items ++ x ∷ []) c.new.ensures in
    let at : c.len-place.result ≡ length s.slots.items = search rules in
    let done : c.in_ok-txn.txn ≡ None = c.in_ok-txn.ensures ∙ ap (λ b. if b then None else Some c.args.entry.now.txn) c.if-executed.true in
    kept_done s.schema s.slots.items s.places.entries c.open_unless.new.places.entries s.graph s.received c.self.invariant c.open_unless.ensures.same y before
    c.push.new.self.items pushed c.len-place.result at c.in_ok-keys.keys.items c.put_node.new.received c.in-Ok.ensures.received
    c.finish.new.self (c.finish.ensures ∙ ap (λ (ps : List Point). finish_at ps c.len-place.result) c.in-Ok.ensures.graph) done

pub invariant_of-self-2 : goal.invariant_of-self-2
invariant_of-self-2 c =
    let s = c.self.inside in
    let y : Placed = placed c.args.entry.now.gtid c.in_ok-txn.txn c.in_ok-earlier.earlier in
    let before = before_in c.args.entry.now.gtid c.in_ok-txn.txn c.in_ok-earlier.earlier (place_of c.open_unless.new.places.entries) c.in_ok-earlier.ensures.place in
    let pushed : c.push.new.self.items ≡ s.slots.items ++ y ∷ [] = c.in_ok-push.ensures.items ∙ ap (λ (x : Placed). s.slots.items ++ x ∷ []) c.new.ensures in
    let at : c.len-place.result ≡ length s.slots.items = search rules in
    let there : c.in_ok-txn.txn ≡ Some c.args.entry.now.txn = c.in_ok-txn.ensures ∙ ap (λ b. if b then None else Some c.args.entry.now.txn) c.if-executed.false in
    kept_open s.schema s.slots.items s.places.entries c.open_unless.new.places.entries s.graph s.received c.self.invariant c.open_unless.ensures.same y before
    c.push.new.self.items pushed c.len-place.result at c.in_ok-keys.keys.items c.put_node.new.received c.in-Ok.ensures.received
    c.put_node.new.graph c.args.entry.now.txn c.put_place.new.places.entries c.in-Ok.ensures.graph there
    (subst (λ (o : Option Transaction). AreKeysOf s.schema c.in_ok-keys.keys.items o) (sym c.in_ok-txn.ensures) c.in_ok-keys.ensures.keys)
    c.put_place.ensures
