use Rattle.std.proofs.Common.{◌≡◌, ◌<◌, ◌≤◌, suc, false, cond, List, length, map, sym, ap, subst, ◌∙◌}
use Rattle.std.specs.Prelude.{Some, None, is_some, slice_get, slice_set}
use Rattle.std.specs.FinSet as set
use Rattle.std.specs.Option.{option_map_or}
use Rattle.gtid_text.specs.Gtids.{same_gtid}
use Rattle.dependency_graph.specs.Graphs.{Point}
use Rattle.apply_channel.specs.Slots.{Placed}
use Rattle.apply_channel.specs.Channels.{Keyed, Received, map_at, as_executed, settle_at}
use Rattle.apply_channel.specs.Kept.{entries_of, place_of, IsLastOpen, AreNodesOf}
use Rattle.apply_channel.proofs.Nodes.{nodes_length, nodes_finished}
use Rattle.apply_channel.proofs.Slots.{entries_length, slot_at}
use Rattle.apply_channel.proofs.LastPlaces.{linked_settle, last_settle, last_left, before_last, below_of, entries_settled, gtids_kept}
use Rattle.apply_channel.proofs.channel.Channel.settle.Goals as goal

pub finish-requires : goal.finish-requires
finish-requires c =
    let s = c.self.inside in
    let p = c.args.place in
    let last = subst (λ (k : Keyed). IsLastOpen k.channel.received c.args.gtid.now (length k.channel.received) (Some p)) (sym c.self.view_is) c.requires in
    subst (λ n. p < n) (sym (nodes_length s.schema s.graph (entries_of s.slots.items) c.self.invariant.nodes)) last.0

pub invariant_of-self : goal.invariant_of-self
invariant_of-self c =
    let s = c.self.inside in
    let p = c.args.place in
    let slots = s.slots.items in
    let x = c.index_mut.result.now in
    let y : Placed = c.settle-earlier.new.self in
    let done : y.txn ≡ None = ap (λ (z : Placed). z.txn) c.settle-earlier.ensures.settled in
    let shut : is_some y.txn ≡ false = ap is_some done in
    let here = subst (λ (k : Keyed). IsLastOpen k.channel.received c.args.gtid.now (length k.channel.received) (Some p)) (sym c.self.view_is) c.requires in
    let last : IsLastOpen (entries_of slots) c.args.gtid.now (length slots) (Some p) = subst (λ n. IsLastOpen (entries_of slots) c.args.gtid.now n (Some p)) (entries_length slots) here in
    let is : slice_get slots p ≡ Some x = slot_at slots p x last.0 c.index_mut.ensures.value in
    let entries : entries_of (slice_set slots p y) ≡ map_at p as_executed (entries_of slots) = entries_settled slots p x y is (ap (λ (z : Placed). z.gtid) c.settle-earlier.ensures.settled) done in
    record {
      nodes = subst (λ (es : List Received). AreNodesOf s.schema c.finish.new.self es) (sym entries)
          (subst (λ (ps : List Point). AreNodesOf s.schema ps (map_at p as_executed (entries_of slots))) (sym c.finish.ensures) (nodes_finished s.schema s.graph (entries_of slots) p c.self.invariant.nodes));
      linked = linked_settle c.args.gtid.now slots p y shut c.self.invariant.linked last;
      last = last_settle c.args.gtid.now slots p y shut c.self.invariant.linked last (place_of s.places.entries) (place_of c.take_place.new.places.entries) x is
          (λ k. c.take_place.ensures k ∙ ap (λ o. cond (same_gtid k c.args.gtid.now) o (place_of s.places.entries k)) c.settle-earlier.ensures.earlier) c.self.invariant.last;
      gtids = c.self.invariant.gtids ∙ sym (ap set.from_list (ap (map (λ (e : Received). e.gtid)) entries ∙ gtids_kept (entries_of slots) p));
    }

pub returns-clause-settled : goal.returns-clause-settled
returns-clause-settled c =
    let s = c.self.inside in
    let p = c.args.place in
    let slots = s.slots.items in
    let x = c.index_mut.result.now in
    let y : Placed = c.settle-earlier.new.self in
    let done : y.txn ≡ None = ap (λ (z : Placed). z.txn) c.settle-earlier.ensures.settled in
    let shut : is_some y.txn ≡ false = ap is_some done in
    let here = subst (λ (k : Keyed). IsLastOpen k.channel.received c.args.gtid.now (length k.channel.received) (Some p)) (sym c.self.view_is) c.requires in
    let last : IsLastOpen (entries_of slots) c.args.gtid.now (length slots) (Some p) = subst (λ n. IsLastOpen (entries_of slots) c.args.gtid.now n (Some p)) (entries_length slots) here in
    let entries : entries_of (slice_set slots p y) ≡ map_at p as_executed (entries_of slots) = entries_settled slots p x y (slot_at slots p x last.0 c.index_mut.ensures.value) (ap (λ (z : Placed). z.gtid) c.settle-earlier.ensures.settled) done in
    ap (λ (rs : List Received). let r : Keyed = record { schema = s.schema; channel = record { name = s.name; preserve = s.preserve; stopped = s.stopped; asked = s.asked; received = rs } } in r) entries
    ∙ ap (λ (k : Keyed). let r : Keyed = record k { channel = settle_at p k.channel } in r) c.self.view_is

pub returns-clause-last : goal.returns-clause-last
returns-clause-last c =
    let s = c.self.inside in
    let p = c.args.place in
    let slots = s.slots.items in
    let x = c.index_mut.result.now in
    let y : Placed = c.settle-earlier.new.self in
    let done : y.txn ≡ None = ap (λ (z : Placed). z.txn) c.settle-earlier.ensures.settled in
    let shut : is_some y.txn ≡ false = ap is_some done in
    let here = subst (λ (k : Keyed). IsLastOpen k.channel.received c.args.gtid.now (length k.channel.received) (Some p)) (sym c.self.view_is) c.requires in
    let last : IsLastOpen (entries_of slots) c.args.gtid.now (length slots) (Some p) = subst (λ n. IsLastOpen (entries_of slots) c.args.gtid.now n (Some p)) (entries_length slots) here in
    subst (λ o. IsLastOpen (entries_of (slice_set slots p y)) c.args.gtid.now (length (entries_of (slice_set slots p y))) o) (sym c.settle-earlier.ensures.earlier)
    (subst (λ n. IsLastOpen (entries_of (slice_set slots p y)) c.args.gtid.now n x.earlier) (sym (entries_length (slice_set slots p y)))
    (last_left c.args.gtid.now slots p y shut c.self.invariant.linked last x (slot_at slots p x last.0 c.index_mut.ensures.value)))

pub returns-clause-below : goal.returns-clause-below
returns-clause-below c =
    let s = c.self.inside in
    let p = c.args.place in
    let slots = s.slots.items in
    let x = c.index_mut.result.now in
    let y : Placed = c.settle-earlier.new.self in
    let done : y.txn ≡ None = ap (λ (z : Placed). z.txn) c.settle-earlier.ensures.settled in
    let shut : is_some y.txn ≡ false = ap is_some done in
    let here = subst (λ (k : Keyed). IsLastOpen k.channel.received c.args.gtid.now (length k.channel.received) (Some p)) (sym c.self.view_is) c.requires in
    let last : IsLastOpen (entries_of slots) c.args.gtid.now (length slots) (Some p) = subst (λ n. IsLastOpen (entries_of slots) c.args.gtid.now n (Some p)) (entries_length slots) here in
    subst (λ o. option_map_or suc o 0 ≤ p) (sym c.settle-earlier.ensures.earlier) (below_of c.args.gtid.now (entries_of slots) p x.earlier (before_last c.args.gtid.now slots p y shut c.self.invariant.linked last x (slot_at slots p x last.0 c.index_mut.ensures.value)))
