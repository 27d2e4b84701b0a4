-- Each entry has its node, and the graph's answers are those of the entries.
use Rattle.std.proofs.Common.{◌≡◌, ℕ, ◌+◌, ◌<◌, ◌≤◌, suc, zero, Bool, true, false, true≢false, cond, not, ◌&&◌, ◌||◌, List, [], ◌∷◌, ◌++◌, take, length, refl, sym, ap, subst, ◌∙◌, arith}
use Rattle.std.specs.Prelude.{Option, Some, None, position, find, option_and_then, option_map, is_some, is_none, nat_lt, nat_le, slice_get}
use Rattle.std.specs.List.{list_any, prefix_len, range_with_len}
use Rattle.std.specs.Option.{option_map_or}
use Rattle.std.proofs.lemmas.Bool.{and_parts, lt-ltb, le-ltb, ltb-true, ltb-false, le-leb, leb-true}
use Rattle.rows.specs.declared.schema.Table.{Table}
use Rattle.rows.specs.declared.change.Key.{Key}
use Rattle.rows.specs.declared.change.Transaction.{Transaction}
use Rattle.rows.specs.Order.{key_eq}
use Rattle.rows.specs.WriteSet.{write_set, touches, is_among}
use Rattle.rows.specs.Conflicts.{conflicts, conflict_is_sharing}
use Rattle.dependency_graph.specs.Graphs as graphs
use Rattle.dependency_graph.specs.Graphs.{Point, gone, are_finished, unfinished, drop_finished, mark_at, finish_at, point_at, least, may_go, IsNextReady}
use Rattle.dependency_graph.proofs.Entries.{flip}
use Rattle.apply_channel.specs.Channels.{Received, holds_back, txn_at, blocker, is_ready, next_ready, first_waiting, are_settled, map_at, as_executed}
use Rattle.apply_channel.specs.Kept.{AreKeysOf, IsNodeOf, AreNodesOf}
use Rattle.std.proofs.lemmas.Option.{same_Some, slice_get_within}
use Rattle.lemmas.proofs.Options.{none_some}
use Rattle.lemmas.proofs.Tests.{or_four, and_false}

-- ---- as many nodes as entries

pub nodes_length : (schema : List Table) (ps : List Point) (es : List Received) → AreNodesOf schema ps es → length ps ≡ length es
nodes_length schema [] [] h = refl
nodes_length schema [] (e ∷ es) h = absurd h
nodes_length schema (p ∷ ps) [] h = absurd h
nodes_length schema (p ∷ ps) (e ∷ es) h = ap suc (nodes_length schema ps es h.1)

-- ---- an entry more

pub nodes_push : (schema : List Table) (ps : List Point) (es : List Received) (p : Point) (e : Received) → AreNodesOf schema ps es → IsNodeOf schema p e → AreNodesOf schema (ps ++ p ∷ []) (es ++ e ∷ [])
nodes_push schema [] [] p e h n = (n, tt)
nodes_push schema [] (f ∷ es) p e h n = absurd h
nodes_push schema (q ∷ ps) [] p e h n = absurd h
nodes_push schema (q ∷ ps) (f ∷ es) p e h n = (h.0, nodes_push schema ps es p e h.1 n)

pub marked_last : (ps : List Point) (p : Point) → mark_at (ps ++ p ∷ []) (length ps) ≡ ps ++ (record p { finished = true }) ∷ []
marked_last [] p = refl
marked_last (q ∷ ps) p = ap (λ qs. q ∷ qs) (marked_last ps p)

-- ---- an entry that is executed

keys_by : (schema : List Table) (keys : List Key) (o : Option Transaction) → is_none o ≡ true → AreKeysOf schema keys o
keys_by schema keys None h = tt
keys_by schema keys (Some t) h = absurd (true≢false (sym h))

-- the node of an executed entry
pub node_done : (schema : List Table) (e : Received) → e.txn ≡ None → IsNodeOf schema gone e
node_done schema e is = record { finished = sym (ap is_none is); keys = keys_by schema [] e.txn (ap is_none is) }

-- where every entry is executed, every node is finished
pub all_finished : (schema : List Table) (ps : List Point) (es : List Received) → AreNodesOf schema ps es → are_settled es ≡ true → are_finished ps ≡ true
all_finished schema [] [] h done = refl
all_finished schema [] (e ∷ es) h done = absurd h
all_finished schema (p ∷ ps) [] h done = absurd h
all_finished schema (p ∷ ps) (e ∷ es) h done =
    let both = and_parts (is_none e.txn) (are_settled es) done in
    ap (λ b. b && are_finished ps) (h.0.finished ∙ both.0) ∙ all_finished schema ps es h.1 both.1

by_finished : (schema : List Table) (p : Point) (e : Received) (ps : List Point) (es : List Received) (b : Bool) → p.finished ≡ b → IsNodeOf schema p e → AreNodesOf schema ps es → AreNodesOf schema (drop_finished ps) es → AreNodesOf schema (cond b (gone ∷ drop_finished ps) (p ∷ ps)) (e ∷ es)
by_finished schema p e ps es true is n h d = let executed : is_none e.txn ≡ true = sym n.finished ∙ is in (record { finished = sym executed; keys = keys_by schema [] e.txn executed }, d)
by_finished schema p e ps es false is n h d = (n, h)

pub nodes_dropped : (schema : List Table) (ps : List Point) (es : List Received) → AreNodesOf schema ps es → AreNodesOf schema (drop_finished ps) es
nodes_dropped schema [] [] h = tt
nodes_dropped schema [] (e ∷ es) h = absurd h
nodes_dropped schema (p ∷ ps) [] h = absurd h
nodes_dropped schema (p ∷ ps) (e ∷ es) h = by_finished schema p e ps es p.finished refl h.0 h.1 (nodes_dropped schema ps es h.1)

nodes_marked : (schema : List Table) (ps : List Point) (es : List Received) (n : ℕ) → AreNodesOf schema ps es → AreNodesOf schema (mark_at ps n) (map_at n as_executed es)
nodes_marked schema [] [] n h = tt
nodes_marked schema [] (e ∷ es) n h = absurd h
nodes_marked schema (p ∷ ps) [] n h = absurd h
nodes_marked schema (p ∷ ps) (e ∷ es) zero h = (record { finished = refl; keys = tt }, h.1)
nodes_marked schema (p ∷ ps) (e ∷ es) (suc n) h = (h.0, nodes_marked schema ps es n h.1)

pub nodes_finished : (schema : List Table) (ps : List Point) (es : List Received) (n : ℕ) → AreNodesOf schema ps es → AreNodesOf schema (finish_at ps n) (map_at n as_executed es)
nodes_finished schema ps es n h = nodes_dropped schema (mark_at ps n) (map_at n as_executed es) (nodes_marked schema ps es n h)

-- a new entry with its keys
pub nodes_open : (schema : List Table) (ps : List Point) (es : List Received) (keys : List Key) (e : Received) (t : Transaction) → e.txn ≡ Some t → AreKeysOf schema keys e.txn → AreNodesOf schema ps es → AreNodesOf schema (ps ++ unfinished keys ∷ []) (es ++ e ∷ [])
nodes_open schema ps es keys e t is k h = nodes_push schema ps es (unfinished keys) e h (record { finished = sym (ap is_none is); keys = k })

-- ... or an executed one
pub nodes_done : (schema : List Table) (ps : List Point) (es : List Received) (keys : List Key) (e : Received) (n : ℕ) → n ≡ length ps → e.txn ≡ None → AreNodesOf schema ps es → AreNodesOf schema (finish_at (ps ++ unfinished keys ∷ []) n) (es ++ e ∷ [])
nodes_done schema ps es keys e n at is h =
    let marked : mark_at (ps ++ unfinished keys ∷ []) n ≡ ps ++ (record { finished = true; keys = keys }) ∷ [] = ap (mark_at (ps ++ unfinished keys ∷ [])) at ∙ marked_last ps (unfinished keys) in
    subst (λ qs. AreNodesOf schema (drop_finished qs) (es ++ e ∷ [])) (sym marked)
    (nodes_dropped schema (ps ++ (record { finished = true; keys = keys }) ∷ []) (es ++ e ∷ [])
    (nodes_push schema ps es (record { finished = true; keys = keys }) e h (record { finished = sym (ap is_none is); keys = keys_by schema keys e.txn (ap is_none is) })))

-- ---- who shares a key

any_false : (xs : List Key) → list_any (λ x. false) xs ≡ false
any_false [] = refl
any_false (x ∷ xs) = any_false xs

any_or : (p q : Key → Bool) (xs : List Key) → list_any (λ x. p x || q x) xs ≡ (list_any p xs || list_any q xs)
any_or p q [] = refl
any_or p q (x ∷ xs) = ap (λ b. (p x || q x) || b) (any_or p q xs) ∙ or_four (p x) (q x) (list_any p xs) (list_any q xs)

swapped : (f : Key → Key → Bool) (a b : List Key) → list_any (λ x. list_any (λ y. f x y) b) a ≡ list_any (λ y. list_any (λ x. f x y) a) b
swapped f [] b = sym (any_false b)
swapped f (x ∷ a) b = ap (λ c. list_any (λ y. f x y) b || c) (swapped f a b) ∙ sym (any_or (λ y. f x y) (λ y. list_any (λ x. f x y) a) b)

common_swap : (a b : List Key) → list_any (λ k. is_among a k) b ≡ list_any (λ k. is_among b k) a
common_swap a b = swapped key_eq b a ∙ (λ i. list_any (λ y. list_any (λ x. flip x y i) b) a)

-- keys denote those that a transaction touches
common_alike : (schema : List Table) (t u : Transaction) (keys others : List Key) → ((k : Key) → is_among keys k ≡ touches schema t k) → ((k : Key) → is_among others k ≡ touches schema u k)
    → list_any (λ k. is_among others k) keys ≡ conflicts schema u t
common_alike schema t u keys others kt ku =
    (λ i. list_any (λ k. ku k i) keys)
    ∙ common_swap (write_set schema u) keys
    ∙ (λ i. list_any (λ k. kt k i) (write_set schema u))
    ∙ sym (conflict_is_sharing schema u t)

back_by : (schema : List Table) (t : Transaction) (keys : List Key) (p : Point) (b : Bool) (o : Option Transaction) → ((k : Key) → is_among keys k ≡ touches schema t k) → b ≡ is_none o → AreKeysOf schema p.keys o
    → list_any (λ k. not b && is_among p.keys k) keys ≡ option_map_or (λ u. conflicts schema u t) o false
back_by schema t keys p true None kt is ku = any_false keys
back_by schema t keys p false (Some u) kt is ku = common_alike schema t u keys p.keys kt ku
back_by schema t keys p false None kt is ku = absurd (true≢false (sym is))
back_by schema t keys p true (Some u) kt is ku = absurd (true≢false is)

back_alike : (schema : List Table) (t : Transaction) (keys : List Key) (p : Point) (e : Received) → ((k : Key) → is_among keys k ≡ touches schema t k) → IsNodeOf schema p e → graphs.holds_back keys p ≡ holds_back schema t e
back_alike schema t keys p e kt n = back_by schema t keys p p.finished e.txn kt n.finished n.keys

-- ---- the first that does

pos_cons : (b : Bool) (at len : ℕ) → cond (nat_lt (cond (not b) (1 + at) 0) (suc len)) (Some (cond (not b) (1 + at) 0)) None ≡ cond b (Some 0) (option_map suc (cond (nat_lt at len) (Some at) None))
pos_cons true at len = ap (λ c. cond c (Some 0) None) (lt-ltb 0 (suc len) (omega arith))
pos_cons false at len = pos_more (nat_lt at len) refl
  where
    pos_more : (b : Bool) → nat_lt at len ≡ b → cond (nat_lt (1 + at) (suc len)) (Some (1 + at)) None ≡ option_map suc (cond b (Some at) None)
    pos_more true h = let lt = ltb-true at len h in ap (λ c. cond c (Some (1 + at)) None) (lt-ltb (1 + at) (suc len) (omega (lt, arith))) ∙ ap Some (omega arith)
    pos_more false h = let le = ltb-false at len h in ap (λ c. cond c (Some (1 + at)) None) (le-ltb (1 + at) (suc len) (omega (le, arith)))

pub position_cons : {X : Type 0} (p : X → Bool) (x : X) (xs : List X) → position p (x ∷ xs) ≡ cond (p x) (Some 0) (option_map suc (position p xs))
position_cons p x xs = pos_cons (p x) (prefix_len (λ y. not (p y)) xs) (length xs)

from_there : (at : ℕ) (o : Option ℕ) → option_map (λ i. suc at + i) o ≡ option_map (λ i. at + i) (option_map suc o)
from_there at None = refl
from_there at (Some i) = ap Some (omega arith)

least_step : (b : Bool) (at : ℕ) (l : Option ℕ) (o : Option ℕ) → l ≡ option_map (λ i. suc at + i) o → cond b (Some at) l ≡ option_map (λ i. at + i) (cond b (Some 0) (option_map suc o))
least_step true at l o h = ap Some (omega arith)
least_step false at l o h = h ∙ from_there at o

least_is : (schema : List Table) (q : Point → Bool) (r : Received → Bool) → ((p : Point) (e : Received) → IsNodeOf schema p e → q p ≡ r e) → (at n : ℕ) (ps : List Point) (es : List Received) → AreNodesOf schema ps es
    → least q at (take n ps) ≡ option_map (λ i. at + i) (position r (take n es))
least_is schema q r alike at zero ps es h = refl
least_is schema q r alike at (suc n) [] [] h = refl
least_is schema q r alike at (suc n) [] (e ∷ es) h = absurd h
least_is schema q r alike at (suc n) (p ∷ ps) [] h = absurd h
least_is schema q r alike at (suc n) (p ∷ ps) (e ∷ es) h =
    ap (λ b. cond b (Some at) (least q (suc at) (take n ps))) (alike p e h.0)
    ∙ least_step (r e) at (least q (suc at) (take n ps)) (position r (take n es)) (least_is schema q r alike (suc at) n ps es h.1)
    ∙ sym (ap (option_map (λ i. at + i)) (position_cons r e (take n es)))

from_zero : (o : Option ℕ) → option_map (λ i. 0 + i) o ≡ o
from_zero None = refl
from_zero (Some i) = ap Some (omega arith)

-- ---- the node in a place

pub node_at : (schema : List Table) (ps : List Point) (es : List Received) (n : ℕ) (e : Received) → AreNodesOf schema ps es → slice_get es n ≡ Some e → IsNodeOf schema (point_at ps n) e
node_at schema [] [] n e h is = none_some e is
node_at schema [] (f ∷ es) n e h is = absurd h
node_at schema (p ∷ ps) [] n e h is = absurd h
node_at schema (p ∷ ps) (f ∷ es) zero e h is = subst (IsNodeOf schema p) (same_Some f e is) h.0
node_at schema (p ∷ ps) (f ∷ es) (suc n) e h is = node_at schema ps es n e h.1 is

keys_of_some : (schema : List Table) (keys : List Key) (o : Option Transaction) (t : Transaction) → o ≡ Some t → AreKeysOf schema keys o → (k : Key) → is_among keys k ≡ touches schema t k
keys_of_some schema keys None t is h = none_some t is
keys_of_some schema keys (Some u) t is h = subst (λ (x : Transaction). (k : Key) → is_among keys k ≡ touches schema x k) (same_Some u t is) h

-- nothing holds back an executed one
pub unblocked : (schema : List Table) (es : List Received) (n : ℕ) (e : Received) → slice_get es n ≡ Some e → e.txn ≡ None → None ≡ blocker schema es n
unblocked schema es n e is txn = sym (ap (option_and_then (λ t. position (holds_back schema t) (take n es))) (ap (option_and_then (λ (f : Received). f.txn)) is ∙ txn))

module _ (schema : List Table) (ps : List Point) (es : List Received) (h : AreNodesOf schema ps es) where
  -- what holds an entry back
  pub node_blocker : (n : ℕ) (e : Received) (t : Transaction) → slice_get es n ≡ Some e → e.txn ≡ Some t → graphs.blocker ps n ≡ blocker schema es n
  node_blocker n e t is txn =
      let node = node_at schema ps es n e h is in
      let keys = keys_of_some schema (point_at ps n).keys e.txn t txn node.keys in
      least_is schema (graphs.holds_back (point_at ps n).keys) (holds_back schema t) (λ p f. back_alike schema t (point_at ps n).keys p f keys) 0 n ps es h
      ∙ from_zero (position (holds_back schema t) (take n es))
      ∙ sym (ap (option_and_then (λ t. position (holds_back schema t) (take n es))) (ap (option_and_then (λ (f : Received). f.txn)) is ∙ txn))

  go_by : (n : ℕ) (e : Received) (o : Option Transaction) → slice_get es n ≡ Some e → e.txn ≡ o → may_go ps n ≡ is_ready schema es n
  go_by n e None is txn =
      let node = node_at schema ps es n e h is in
      ap (λ b. not b && graphs.is_ready ps n) (node.finished ∙ ap is_none txn)
      ∙ sym (ap (λ o. is_some o && is_none (blocker schema es n)) (ap (option_and_then (λ (f : Received). f.txn)) is ∙ txn))
  go_by n e (Some t) is txn =
      let node = node_at schema ps es n e h is in
      ap (λ b. not b && graphs.is_ready ps n) (node.finished ∙ ap is_none txn)
      ∙ ap is_none (node_blocker n e t is txn)
      ∙ sym (ap (λ o. is_some o && is_none (blocker schema es n)) (ap (option_and_then (λ (f : Received). f.txn)) is ∙ txn))

  slice_get_there : (fs : List Received) (n : ℕ) → n < length fs → (e : Received) × (slice_get fs n ≡ Some e)
  slice_get_there [] n lt = absurd (omega (lt, arith))
  slice_get_there (e ∷ fs) zero lt = (e, refl)
  slice_get_there (e ∷ fs) (suc n) lt = slice_get_there fs n (omega (lt, arith))

  pub goes : (n : ℕ) → n < length es → may_go ps n ≡ is_ready schema es n
  goes n lt = let there = slice_get_there es n lt in go_by n there.0 there.0.txn there.1 refl

-- ---- the least that may go

module _ (p : ℕ → Bool) where
  find_none : (a n : ℕ) → ((m : ℕ) → a ≤ m → m < a + n → p m ≡ false) → find p (range_with_len a n) ≡ None
  find_none a zero h = refl
  find_none a (suc n) h =
      ap (λ b. cond b (Some a) (find p (range_with_len (a + 1) n))) (h a (omega arith) (omega arith))
      ∙ find_none (a + 1) n (λ m le lt. h m (omega (le, arith)) (omega (lt, arith)))

  found_by : (a n k : ℕ) (b : Bool) → nat_lt a k ≡ b → a ≤ k → p k ≡ true → ((m : ℕ) → a ≤ m → m < k → p m ≡ false) → (a < k → find p (range_with_len (a + 1) n) ≡ Some k) → cond (p a) (Some a) (find p (range_with_len (a + 1) n)) ≡ Some k
  found_by a n k true e le pass fail rest =
      let less = ltb-true a k e in
      ap (λ b. cond b (Some a) (find p (range_with_len (a + 1) n))) (fail a (omega arith) less) ∙ rest less
  found_by a n k false e le pass fail rest =
      let far = ltb-false a k e in
      let same : a ≡ k = omega (far, le, arith) in
      ap (λ b. cond b (Some a) (find p (range_with_len (a + 1) n))) (ap p same ∙ pass) ∙ ap Some same

  find_some : (a n k : ℕ) → a ≤ k → k < a + n → p k ≡ true → ((m : ℕ) → a ≤ m → m < k → p m ≡ false) → find p (range_with_len a n) ≡ Some k
  find_some a zero k le lt pass fail = absurd (omega (le, lt, arith))
  find_some a (suc n) k le lt pass fail =
      found_by a n k (nat_lt a k) refl le pass fail (λ less. find_some (a + 1) n k (omega (less, arith)) (omega (lt, arith)) pass (λ m from to. fail m (omega (from, arith)) to))

test_by : (b : Bool) (from m : ℕ) (t : Bool) → nat_le from m ≡ b → (from ≤ m → t ≡ false) → (nat_le from m && t) ≡ false
test_by true from m t e h = ap (λ c. c && t) e ∙ h (leb-true from m e)
test_by false from m t e h = ap (λ c. c && t) e

pub next_is : (schema : List Table) (ps : List Point) (es : List Received) → AreNodesOf schema ps es → (from : ℕ) (r : Option ℕ) → IsNextReady ps from r → r ≡ next_ready schema es from
next_is schema ps es h from None next =
    let size = nodes_length schema ps es h in
    sym (find_none (λ place. nat_le from place && is_ready schema es place) 0 (length es)
    (λ m le lt. test_by (nat_le from m) from m (is_ready schema es m) refl (λ far. sym (goes schema ps es h m (omega (lt, arith))) ∙ next m far (omega (lt, size, arith)))))
next_is schema ps es h from (Some n) next =
    let size = nodes_length schema ps es h in
    let far = next.0 in
    let below = next.1 in
    sym (find_some (λ place. nat_le from place && is_ready schema es place) 0 (length es) n (omega arith) (omega (below, size, arith))
    (ap (λ c. c && is_ready schema es n) (le-leb from n far) ∙ sym (goes schema ps es h n (omega (below, size, arith))) ∙ next.2)
    (λ m le lt. test_by (nat_le from m) from m (is_ready schema es m) refl (λ to. sym (goes schema ps es h m (omega (lt, below, size, arith))) ∙ next.3 m to lt)))

-- ---- the prefix

position_none : {X : Type 0} (r : X → Bool) (xs : List X) → ((i : ℕ) (x : X) → slice_get xs i ≡ Some x → r x ≡ false) → position r xs ≡ None
position_none r [] h = refl
position_none r (x ∷ xs) h =
    position_cons r x xs
    ∙ ap (λ b. cond b (Some 0) (option_map suc (position r xs))) (h 0 x refl)
    ∙ ap (option_map suc) (position_none r xs (λ i y is. h (suc i) y is))

position_at : {X : Type 0} (r : X → Bool) (xs : List X) (n : ℕ) (x : X) → slice_get xs n ≡ Some x → r x ≡ true → ((i : ℕ) (y : X) → i < n → slice_get xs i ≡ Some y → r y ≡ false) → position r xs ≡ Some n
position_at r [] n x is pass h = none_some x is
position_at r (y ∷ xs) zero x is pass h = position_cons r y xs ∙ ap (λ b. cond b (Some 0) (option_map suc (position r xs))) (ap r (same_Some y x is) ∙ pass)
position_at r (y ∷ xs) (suc n) x is pass h =
    position_cons r y xs
    ∙ ap (λ b. cond b (Some 0) (option_map suc (position r xs))) (h 0 y (omega arith) refl)
    ∙ ap (option_map suc) (position_at r xs n x is pass (λ i z lt there. h (suc i) z (omega (lt, arith)) there))

take_back : {X : Type 0} (n : ℕ) (xs : List X) (i : ℕ) (x : X) → slice_get (take n xs) i ≡ Some x → (i < n) × (slice_get xs i ≡ Some x)
take_back zero xs i x is = none_some x is
take_back (suc n) [] i x is = none_some x is
take_back (suc n) (y ∷ xs) zero x is = (omega arith, is)
take_back (suc n) (y ∷ xs) (suc i) x is = let back = take_back n xs i x is in let lt = back.0 in (omega (lt, arith), back.1)

take_there : {X : Type 0} (n : ℕ) (xs : List X) (i : ℕ) (x : X) → i < n → slice_get xs i ≡ Some x → slice_get (take n xs) i ≡ Some x
take_there zero xs i x lt is = absurd (omega (lt, arith))
take_there (suc n) [] i x lt is = is
take_there (suc n) (y ∷ xs) zero x lt is = is
take_there (suc n) (y ∷ xs) (suc i) x lt is = take_there n xs i x (omega (lt, arith)) is

-- the entries below this one are executed
pub AreExecuted : List Received → ℕ → Type 0
AreExecuted es n = (i : ℕ) (e : Received) → i < n → slice_get es i ≡ Some e → is_some e.txn ≡ false

no_txn : (schema : List Table) (t : Transaction) (o : Option Transaction) → is_some o ≡ false → option_map_or (λ u. conflicts schema u t) o false ≡ false
no_txn schema t None h = refl
no_txn schema t (Some u) h = absurd (true≢false h)

module _ (schema : List Table) (es : List Received) where
  executed_at : (n : ℕ) (e : Received) (o : Option Transaction) → e.txn ≡ o → slice_get es n ≡ Some e → AreExecuted es n → is_ready schema es n ≡ false → is_some o ≡ false
  unfolding AreExecuted
  executed_at n e None txn is before shut = refl
  executed_at n e (Some t) txn is before shut =
      let here : txn_at es n ≡ Some t = ap (option_and_then (λ (f : Received). f.txn)) is ∙ txn in
      let none : position (holds_back schema t) (take n es) ≡ None = position_none (holds_back schema t) (take n es) (λ i f there. let back = take_back n es i f there in no_txn schema t f.txn (before i f back.0 back.1)) in
      let free : blocker schema es n ≡ None = ap (option_and_then (λ t. position (holds_back schema t) (take n es))) here ∙ none in
      let ready : is_ready schema es n ≡ true = (λ i. is_some (here i) && is_none (free i)) in
      absurd (true≢false (sym ready ∙ shut))

  executed_next : (n : ℕ) (i : ℕ) (e : Received) (b : Bool) → nat_lt i n ≡ b → i < suc n → slice_get es i ≡ Some e → AreExecuted es n → is_ready schema es n ≡ false → is_some e.txn ≡ false
  unfolding AreExecuted
  executed_next n i e true below lt is before shut = before i e (ltb-true i n below) is
  executed_next n i e false above lt is before shut =
      let far = ltb-false i n above in
      let same : i ≡ n = omega (far, lt, arith) in
      executed_at n e e.txn refl (ap (slice_get es) (sym same) ∙ is) before shut

  pub executed_below : (n : ℕ) → ((m : ℕ) → m < n → is_ready schema es m ≡ false) → AreExecuted es n
  unfolding AreExecuted
  executed_below zero h = λ i e lt is. absurd (omega (lt, arith))
  executed_below (suc n) h = λ i e lt is. executed_next n i e (nat_lt i n) refl lt is (executed_below n (λ m le. h m (omega (le, arith)))) (h n (omega arith))

ready_some : (o : Option Transaction) (b : Bool) → (is_some o && b) ≡ true → is_some o ≡ true
ready_some None b h = h
ready_some (Some t) b h = refl

all_by : (es : List Received) → ((i : ℕ) (e : Received) → slice_get es i ≡ Some e → is_some e.txn ≡ false) → are_settled es ≡ true
all_by [] h = refl
all_by (e ∷ es) h = (λ i. none_of e.txn (h 0 e refl) i && all_by es (λ j f is. h (suc j) f is) i)
  where
    none_of : (o : Option Transaction) → is_some o ≡ false → is_none o ≡ true
    none_of None h = refl
    none_of (Some t) h = absurd (true≢false h)

one_open : (es : List Received) (n : ℕ) (e : Received) → slice_get es n ≡ Some e → is_some e.txn ≡ true → are_settled es ≡ false
one_open [] n e is h = none_some e is
one_open (f ∷ es) zero e is h = ap (λ b. b && are_settled es) (open_of f.txn (ap (λ (x : Received). is_some x.txn) (same_Some f e is) ∙ h))
  where
    open_of : (o : Option Transaction) → is_some o ≡ true → is_none o ≡ false
    open_of None h = absurd (true≢false (sym h))
    open_of (Some t) h = refl
one_open (f ∷ es) (suc n) e is h = ap (λ b. is_none f.txn && b) (one_open es n e is h) ∙ and_false (is_none f.txn)

module _ (schema : List Table) (ps : List Point) (es : List Received) (h : AreNodesOf schema ps es) where
  all_done : IsNextReady ps 0 None → (i : ℕ) (e : Received) → slice_get es i ≡ Some e → is_some e.txn ≡ false
  unfolding AreExecuted
  all_done next i e is =
      let size = nodes_length schema ps es h in
      executed_below schema es (length es) (λ m lt. sym (goes schema ps es h m lt) ∙ next m (omega arith) (omega (lt, size, arith))) i e (slice_get_within es i e is) is

  done_before : (n : ℕ) → IsNextReady ps 0 (Some n) → AreExecuted es n
  done_before n next =
      let size = nodes_length schema ps es h in
      let below = next.1 in
      executed_below schema es n (λ m lt. sym (goes schema ps es h m (omega (lt, below, size, arith))) ∙ next.3 m (omega arith) lt)

  open_there : (n : ℕ) → IsNextReady ps 0 (Some n) → (e : Received) × (slice_get es n ≡ Some e) × (is_some e.txn ≡ true)
  open_there n next =
      let size = nodes_length schema ps es h in
      let below = next.1 in
      let there = got es n (omega (below, size, arith)) in
      let ready : is_ready schema es n ≡ true = sym (goes schema ps es h n (omega (below, size, arith))) ∙ next.2 in
      (there.0, there.1, ready_some there.0.txn (is_none (blocker schema es n)) (ap (λ o. is_some (option_and_then (λ (f : Received). f.txn) o) && is_none (blocker schema es n)) (sym there.1) ∙ ready))
    where
      got : (fs : List Received) (n : ℕ) → n < length fs → (e : Received) × (slice_get fs n ≡ Some e)
      got [] n lt = absurd (omega (lt, arith))
      got (e ∷ fs) zero lt = (e, refl)
      got (e ∷ fs) (suc n) lt = got fs n (omega (lt, arith))

  pub none_waits : (place : ℕ) → IsNextReady ps 0 None → None ≡ first_waiting es place
  none_waits place next = sym (position_none (λ (e : Received). is_some e.txn) (take place es) (λ i e there. all_done next i e (take_back place es i e there).1))

  pub first_waits : (place n : ℕ) → IsNextReady ps 0 (Some n) → n < place → Some n ≡ first_waiting es place
  unfolding AreExecuted
  first_waits place n next lt =
      let there = open_there n next in
      sym (position_at (λ (e : Received). is_some e.txn) (take place es) n there.0 (take_there place es n there.0 lt there.1) there.2
      (λ i e less is. done_before n next i e less (take_back place es i e is).1))

  pub later_waits : (place n : ℕ) → IsNextReady ps 0 (Some n) → place ≤ n → None ≡ first_waiting es place
  unfolding AreExecuted
  later_waits place n next le =
      sym (position_none (λ (e : Received). is_some e.txn) (take place es) (λ i e is. let back = take_back place es i e is in let lt = back.0 in done_before n next i e (omega (lt, le, arith)) back.1))

  pub settled_if : (r : Option ℕ) → IsNextReady ps 0 r → is_none r ≡ are_settled es
  settled_if None next = sym (all_by es (all_done next))
  settled_if (Some n) next = let there = open_there n next in sym (one_open es n there.0 there.1 there.2)
