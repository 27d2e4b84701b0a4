-- An entry more: its slot, its node, its GTID.
use Rattle.std.proofs.Common.{◌≡◌, ℕ, ◌<◌, false, true, cond, List, [], ◌∷◌, ◌++◌, length, sym, ap, subst, ◌∙◌, arith}
use Rattle.std.specs.Prelude.{Option, Some, None, is_some, nat_le}
use Rattle.std.specs.FinSet as set
use Rattle.std.proofs.lemmas.Bool.{leb-false, both_ways}
use Rattle.std.proofs.lemmas.List.{length_push}
use Rattle.rows.specs.declared.schema.Table.{Table}
use Rattle.rows.specs.declared.change.Key.{Key}
use Rattle.rows.specs.declared.change.Transaction.{Transaction}
use Rattle.gtid_text.specs.declared.Gtid.{Gtid}
use Rattle.gtid_text.specs.Gtids.{same_gtid}
use Rattle.gtid_set.specs.Sets.{Gtids}
use Rattle.dependency_graph.specs.Graphs.{Point, gone, drop_finished, unfinished, finish_at}
use Rattle.apply_channel.specs.Slots.{Placed, placed}
use Rattle.apply_channel.specs.Channels.{received_gtids, most_received, Received}
use Rattle.apply_channel.specs.Kept.{IsKept, AreNodesOf, AreKeysOf, AreLinked, AreLast, IsLastOpen, entries_of, received_of, place_of}
use Rattle.apply_channel.proofs.Nodes.{nodes_length, nodes_open, nodes_done, nodes_push, nodes_dropped, node_done}
use Rattle.apply_channel.proofs.Slots.{entries_length, entries_of-push, received_gtids-push}
use Rattle.apply_channel.proofs.LastPlaces.{linked_push, last_push_done, last_push_open}

pub room_left : (n : ℕ) → nat_le most_received n ≡ false → n < 4294967294
unfolding most_received
room_left n h = leb-false 4294967294 n h

-- the place before an entry that is not executed
pub before_in : (gtid : Gtid) (txn : Option Transaction) (earlier : Option ℕ) (last : Gtid → Option ℕ) → earlier ≡ last gtid → is_some txn ≡ true → (placed gtid txn earlier).earlier ≡ last gtid
before_in gtid txn earlier last is there = ap (λ b. cond b earlier None) there ∙ is

module _ (schema : List Table) (slots : List Placed) (places opened : List (Gtid × Option ℕ)) (graph : List Point) (received : Gtids) (kept : IsKept schema slots places graph received)
    (same : (g : Gtid) → place_of opened g ≡ place_of places g) (y : Placed) (before : is_some y.txn ≡ true → y.earlier ≡ place_of opened y.gtid) (items : List Placed) (is : items ≡ slots ++ y ∷ []) (n : ℕ) (at : n ≡ length slots)
    (keys : List Key) (all : Gtids) (more : all ≡ set.insert received y.gtid) where
  entries : entries_of items ≡ entries_of slots ++ received_of y ∷ []
  entries = ap entries_of is ∙ entries_of-push slots y

  nodes_at : n ≡ length graph
  nodes_at = at ∙ sym (entries_length slots) ∙ sym (nodes_length schema graph (entries_of slots) kept.nodes)

  last_opened : AreLast slots (place_of opened)
  last_opened = λ g. subst (λ o. IsLastOpen (entries_of slots) g (length slots) o) (sym (same g)) (kept.last g)

  linked_now : AreLinked items
  linked_now = subst (λ (xs : List Placed). AreLinked xs) (sym is) (linked_push slots y kept.linked (λ there. subst (λ o. IsLastOpen (entries_of slots) y.gtid (length slots) o) (sym (before there)) (last_opened y.gtid)))

  gtids_now : all ≡ received_gtids (entries_of items)
  gtids_now = more ∙ ap (λ r. set.insert r y.gtid) kept.gtids ∙ sym (received_gtids-push (entries_of slots) (received_of y)) ∙ sym (ap received_gtids entries)

  -- a place has room below a graph with one node more
  pub below_more : n < length (graph ++ unfinished keys ∷ [])
  below_more = let longer = length_push graph (unfinished keys) in let here = nodes_at in omega (longer, here, arith)

  -- an executed one
  pub kept_done : (after : List Point) → after ≡ finish_at (graph ++ unfinished keys ∷ []) n → y.txn ≡ None → IsKept schema items opened after all
  kept_done after finished done = record {
    nodes = subst (λ (es : List Received). AreNodesOf schema after es) (sym entries)
        (subst (λ (ps : List Point). AreNodesOf schema ps (entries_of slots ++ received_of y ∷ [])) (sym finished) (nodes_done schema graph (entries_of slots) keys (received_of y) n nodes_at done kept.nodes));
    linked = linked_now;
    last = subst (λ (xs : List Placed). AreLast xs (place_of opened)) (sym is) (last_push_done slots y (place_of opened) (ap is_some done) last_opened);
    gtids = gtids_now;
  }

  -- ... or another
  pub kept_open : (after : List Point) (t : Transaction) (put : List (Gtid × Option ℕ)) → after ≡ graph ++ unfinished keys ∷ [] → y.txn ≡ Some t → AreKeysOf schema keys y.txn
      → ((g : Gtid) → place_of put g ≡ cond (same_gtid g y.gtid) (Some n) (place_of opened g)) → IsKept schema items put after all
  kept_open after t put pushed there keyed new = record {
    nodes = subst (λ (es : List Received). AreNodesOf schema after es) (sym entries)
        (subst (λ (ps : List Point). AreNodesOf schema ps (entries_of slots ++ received_of y ∷ [])) (sym pushed) (nodes_open schema graph (entries_of slots) keys (received_of y) t there keyed kept.nodes));
    linked = linked_now;
    last = subst (λ (xs : List Placed). AreLast xs (place_of put)) (sym is)
        (last_push_open slots y (place_of opened) (place_of put) (ap is_some there) last_opened (λ g. new g ∙ ap (λ m. cond (same_gtid g y.gtid) (Some m) (place_of opened g)) at));
    gtids = gtids_now;
  }

-- an executed one, where every entry is
pub kept_settled : (schema : List Table) (slots : List Placed) (places : List (Gtid × Option ℕ)) (graph : List Point) (received : Gtids) → IsKept schema slots places graph received
    → (y : Placed) (items : List Placed) → items ≡ slots ++ y ∷ [] → y.txn ≡ None → (after : List Point) → after ≡ drop_finished (graph ++ gone ∷ []) → (all : Gtids) → all ≡ set.insert received y.gtid → IsKept schema items places after all
kept_settled schema slots places graph received kept y items is done after finished all more = record {
  nodes = subst (λ (es : List Received). AreNodesOf schema after es) (sym entries_now)
      (subst (λ (ps : List Point). AreNodesOf schema ps (entries_of slots ++ received_of y ∷ [])) (sym finished)
      (nodes_dropped schema (graph ++ gone ∷ []) (entries_of slots ++ received_of y ∷ []) (nodes_push schema graph (entries_of slots) gone (received_of y) kept.nodes (node_done schema (received_of y) done))));
  linked = subst (λ (xs : List Placed). AreLinked xs) (sym is) (linked_push slots y kept.linked (λ there. absurd (both_ways (is_some y.txn) (ap is_some done) there)));
  last = subst (λ (xs : List Placed). AreLast xs (place_of places)) (sym is) (last_push_done slots y (place_of places) (ap is_some done) kept.last);
  gtids = more ∙ ap (λ r. set.insert r y.gtid) kept.gtids ∙ sym (received_gtids-push (entries_of slots) (received_of y)) ∙ sym (ap received_gtids entries_now);
}
  where
    entries_now : entries_of items ≡ entries_of slots ++ received_of y ∷ []
    entries_now = ap entries_of is ∙ entries_of-push slots y
