-- What a graph keeps: its nodes after those that were dropped, and the chains of their keys.
use Rattle.std.specs.Prelude.{ℕ, ◌+◌, ◌-◌, ◌≡◌, ◌<◌, ◌≤◌, ◌⊎◌, ⊤, Bool, true, false, cond, nat_lt, nat_eq, List, [], ◌∷◌, ◌++◌, map, length, replicate, slice_index_or, slice_set, Option, Some, take, ◌≢◌}
use Rattle.std.specs.Option.{option_map_or}
use Rattle.std.specs.List.{list_any, AllByRecursion, AllPairs, IsDistinct}
use Rattle.rows.specs.declared.change.Key.{Key}
use Rattle.rows.specs.Order.{key_eq}
use Rattle.rows.specs.WriteSet.{is_among}
use Rattle.dependency_graph.specs.Graphs.{Awaiting, Point, gone, least, is_open_at, point_at}
use Rattle.dependency_graph.specs.Chains.{HasRoom, Holds, IsAscending, with_node, first_number, first_of}
use Rattle.dependency_graph.specs.declared.graph.GraphNode.{GraphNode}
use Rattle.dependency_graph.specs.declared.chains.Chains.{Chains}

abbrev pub point_of : GraphNode → Point
point_of n = record { finished = n.finished; keys = n.keys.items }

-- the nodes, those that were dropped first
abbrev pub points : ℕ → List GraphNode → List Point
points before nodes = replicate before gone ++ map point_of nodes

-- the number, if there is one, is below this one
abbrev pub is_below : ℕ → Option ℕ → Bool
is_below n first = option_map_or (λ f. nat_lt f n) first false

-- how many keys have an earlier node at the head of their chain
abbrev pub waiting : (Key → Option ℕ) → ℕ → List Key → ℕ
waiting first n [] = 0
waiting first n (k ∷ ks) = cond (is_below n (first k)) 1 0 + waiting first n ks

-- what the queries need
pub record IsSound (before : ℕ) (nodes : List GraphNode) (c : Chains) : Type 0 where
  pub small : before + length nodes ≤ 4294967294
  pub front : (k : Key) → first_of c k ≡ least (is_open_at k) 0 (points before nodes)
  pub counted : (i : ℕ) (n : GraphNode) → i < length nodes → n ≡ slice_index_or nodes i n → n.finished ≡ false → n.waits ≡ waiting (first_of c) (before + i) n.keys.items

-- the first node, if there is one, is finished
abbrev pub is_finished_first : List GraphNode → Bool
is_finished_first [] = false
is_finished_first (n ∷ nodes) = n.finished

abbrev pub is_finished_at : List Point → ℕ → Bool
is_finished_at ps n = (point_at ps n).finished

abbrev pub Has : List ℕ → ℕ → Type 0
Has ns n = list_any (λ m. nat_eq m n) ns ≡ true

-- a chain begins with an unfinished node, if it is not late
abbrev pub StartsOpen : List Point → Bool → List ℕ → Type 0
StartsOpen ps late [] = ⊤
StartsOpen ps late (n ∷ ns) = (is_finished_at ps n ≡ false) ⊎ (late ≡ true)

-- The chain of a key holds its unfinished nodes, and after the first of them perhaps finished ones.
-- Only the chains of late keys may begin with a finished node.
pub record IsChained (ps : List Point) (nodes : Key → List ℕ) (late : List Key) : Type 0 where
  pub rising : (k : Key) → IsAscending (nodes k)
  pub below : (k : Key) → AllByRecursion (λ n. n < length ps) (nodes k)
  pub members : (k : Key) → AllByRecursion (λ n. is_finished_at ps n ≡ false → is_open_at k (point_at ps n) ≡ true) (nodes k)
  pub found : (k : Key) (n : ℕ) → is_open_at k (point_at ps n) ≡ true → Has (nodes k) n
  pub starts : (k : Key) → StartsOpen ps (is_among late k) (nodes k)

-- each unfinished node counts the keys for which it waits
abbrev pub IsCounted : ℕ → List GraphNode → (Key → List ℕ) → Type 0
IsCounted before nodes chain = (i : ℕ) (n : GraphNode) → i < length nodes → n ≡ slice_index_or nodes i n → n.finished ≡ false → n.waits ≡ waiting (λ k. first_number (chain k)) (before + i) n.keys.items

pub record IsKept (before : ℕ) (nodes : List GraphNode) (c : Chains) (late : List Key) : Type 0 where
  pub chain : Key → List ℕ
  pub holds : Holds c chain
  pub small : before + length nodes ≤ 4294967294
  pub distinct : (i : ℕ) (n : GraphNode) → i < length nodes → n ≡ slice_index_or nodes i n → IsDistinct key_eq n.keys.items
  pub chained : IsChained (points before nodes) chain late
  pub counted : IsCounted before nodes chain

-- the keys of the node in this place
abbrev pub keys_at : List GraphNode → ℕ → List Key
keys_at nodes i = (point_at (map point_of nodes) i).keys

-- the first node of the first of these keys is unfinished
abbrev pub IsFrontOpen : List Point → Chains → List Key → Type 0
IsFrontOpen ps c [] = ⊤
IsFrontOpen ps c (k ∷ ks) = (n : ℕ) → first_of c k ≡ Some n → is_finished_at ps n ≡ false

-- this node counts one key less
pub record LowersAt (before : ℕ) (old new : List GraphNode) (n : ℕ) : Type 0 where
  pub node : GraphNode
  pub at : node ≡ slice_index_or old (n - before) node
  pub is : new ≡ slice_set old (n - before) (record node { waits = node.waits - 1 })

-- an unfinished node that becomes the head of a chain counts that key
abbrev pub CanRelease : ℕ → List GraphNode → Option ℕ → Type 0
CanRelease before nodes first = (n : ℕ) (x : GraphNode) → first ≡ Some n → is_finished_at (points before nodes) n ≡ false → x ≡ slice_index_or nodes (n - before) x → 1 ≤ x.waits

-- an unfinished node that becomes the head of a chain counts one key less
pub record Releases (before : ℕ) (old new : List GraphNode) (first : Option ℕ) : Type 0 where
  pub unfinished : (n : ℕ) → first ≡ Some n → is_finished_at (points before old) n ≡ false → LowersAt before old new n
  pub others : ((n : ℕ) → first ≡ Some n → is_finished_at (points before old) n ≡ true) → new ≡ old

abbrev pub IsBelow : (Key → List ℕ) → ℕ → Type 0
IsBelow f node = (k : Key) → AllByRecursion (λ n. n < node) (f k)

-- the chains of these keys end with the node
abbrev pub LinksAll : Chains → Chains → List Key → ℕ → Type 0
LinksAll old new keys node = (f : Key → List ℕ) → Holds old f → IsBelow f node → Holds new (with_node f keys node)

-- how many of these keys have an earlier node
abbrev pub CountsAll : Chains → List Key → ℕ → ℕ → Type 0
CountsAll old keys node waits = (f : Key → List ℕ) → Holds old f → IsBelow f node → waits ≡ waiting (λ k. first_number (f k)) node keys

-- the nodes, of which the last is still to come
abbrev pub awaiting_of : ℕ → List GraphNode → Awaiting
awaiting_of before nodes = record { nodes = points before (take (length nodes - 1) nodes); keys = keys_at nodes (length nodes - 1) }

-- room for the last of these nodes, after those that are kept
pub record IsReserved (before : ℕ) (nodes : List GraphNode) (c : Chains) : Type 0 where
  pub old : List GraphNode
  pub node : GraphNode
  pub is : nodes ≡ old ++ node ∷ []
  pub unfinished : node.finished ≡ false
  pub few : before + length old < 4294967294
  pub distinct : AllPairs (λ a b. a ≢ b) node.keys.items
  pub kept : IsKept before old c []
  pub room : HasRoom c node.keys.items
