-- How the edges of the keys' chains are linked by index.
use Rattle.std.specs.Prelude.{ℕ, suc, ◌+◌, ◌≡◌, ◌<◌, ⊤, Bool, ◌&&◌, ◌==◌, cond, List, [], ◌∷◌, ◌++◌, map, length, Option, Some, None, IsSome}
use Rattle.std.specs.List.{AllByRecursion}
use Rattle.std.specs.Map.{lookup}
use Rattle.std.specs.Ordering.{nat_cmp, eq_by_cmp}
use Rattle.std.specs.Cmp.Lexicographic.{slice_cmp}
use Rattle.std.specs.Option.{unwrap_or, option_map, option_map_or, option_and_then}
use Rattle.slab.specs.Slab as slots
use Rattle.rows.specs.declared.change.Key.{Key}
use Rattle.rows.specs.Order.{key_eq}
use Rattle.row_images.specs.Order.{row_eq}
use Rattle.rows.specs.WriteSet.{is_among}
use Rattle.dependency_graph.specs.declared.chains.Chains.{Chains}
use Rattle.dependency_graph.specs.declared.chains.Edge.{Edge}
use Rattle.dependency_graph.specs.declared.chains.Ends.{Ends}

-- an edge in its place, with its node
pub record Link : Type 0 where
  pub at : ℕ
  pub node : ℕ

abbrev pub number_of : Link → ℕ
number_of l = l.node

abbrev pub head_of : List Link → Option ℕ
head_of [] = None
head_of (l ∷ ls) = Some l.at

abbrev pub last_of : Link → List Link → ℕ
last_of l [] = l.at
last_of l (m ∷ ms) = last_of m ms

abbrev pub ends_of : List Link → Option Ends
ends_of [] = None
ends_of (l ∷ ls) = Some (record { first = l.at; last = last_of l ls })

-- the edges that these links denote, one after the other
abbrev pub IsLinked : (ℕ → Option Edge) → List Link → Type 0
IsLinked edges [] = ⊤
IsLinked edges (l ∷ ls) = (edges l.at ≡ Some (record { node = l.node; after = head_of ls })) × IsLinked edges ls

-- each node comes before the next
abbrev pub IsAscending : List ℕ → Type 0
IsAscending [] = ⊤
IsAscending (n ∷ ns) = AllByRecursion (λ m. n < m) ns × IsAscending ns

-- the test by which the table compares keys
abbrev pub same_key : Key → Key → Bool
same_key a b = eq_by_cmp (slice_cmp nat_cmp) a.table b.table && (a.index == b.index && row_eq a.values b.values)

-- the entry of a key in the table
abbrev pub entry_at : List (Key × Option Ends) → Key → Option (Option Ends)
entry_at es k = lookup (same_key k) es

-- the key has an entry, an empty one if it had none, and the others are as they were
abbrev pub IsOpened : Key → List (Key × Option Ends) → List (Key × Option Ends) → Type 0
IsOpened key old new = (k : Key) → entry_at new k ≡ cond (same_key key k) (Some (unwrap_or (entry_at old key) None)) (entry_at old k)

-- the ends of a key's chain; a key without an entry has an empty one
abbrev pub ends_at : Chains → Key → Option Ends
ends_at c k = unwrap_or (entry_at c.table.entries k) None

abbrev pub edge_at : Chains → ℕ → Option Edge
edge_at c at = slots.get c.edges at

-- the links of each key; no edge is linked for two keys
pub record IsWhole (c : Chains) (lists : Key → List Link) (owner : ℕ → Key) : Type 0 where
  pub ends : (k : Key) → ends_at c k ≡ ends_of (lists k)
  pub linked : (k : Key) → IsLinked (edge_at c) (lists k)
  pub rising : (k : Key) → IsAscending (map number_of (lists k))
  pub owned : (k : Key) → AllByRecursion (λ (l : Link). owner l.at ≡ k) (lists k)

-- the chains hold these nodes for each key
pub record Holds (c : Chains) (nodes : Key → List ℕ) : Type 0 where
  pub lists : Key → List Link
  pub owner : ℕ → Key
  pub whole : IsWhole c lists owner
  pub numbers : (k : Key) → map number_of (lists k) ≡ nodes k

-- with this for this key
abbrev pub with_chain : {X : Type 0} → (Key → X) → Key → X → Key → X
with_chain f key x k = cond (key_eq k key) x (f k)

-- with this node at the end for each of these keys
abbrev pub with_node : (Key → List ℕ) → List Key → ℕ → Key → List ℕ
with_node f keys node k = cond (is_among keys k) (f k ++ node ∷ []) (f k)

abbrev pub first_number : List ℕ → Option ℕ
first_number [] = None
first_number (n ∷ ns) = Some n

-- the node of an edge
abbrev pub node_at : Chains → ℕ → Option ℕ
node_at c at = option_map (λ (e : Edge). e.node) (edge_at c at)

-- the first node of the key's chain
abbrev pub first_of : Chains → Key → Option ℕ
first_of c k = option_and_then (λ (ends : Ends). node_at c ends.first) (ends_at c k)

-- the chains and edges are the same
pub record IsSame (old new : Chains) : Type 0 where
  pub edges : (at : ℕ) → edge_at new at ≡ edge_at old at
  pub ends : (k : Key) → ends_at new k ≡ ends_at old k

abbrev pub HasEntry : Chains → Key → Type 0
HasEntry c k = IsSome (entry_at c.table.entries k)

-- room for an edge at each of the keys
pub record HasRoom (c : Chains) (keys : List Key) : Type 0 where
  pub edges : slots.HasRoomFor c.edges (length keys)
  pub entries : AllByRecursion (HasEntry c) keys

-- there is room for one edge less
pub record KeepsRoom (old new : Chains) : Type 0 where
  pub edges : (more : ℕ) → slots.HasRoomFor old.edges (suc more) → slots.HasRoomFor new.edges more
  pub entries : (k : Key) → HasEntry old k → HasEntry new k

-- the edge has this one after it
abbrev pub Links : Chains → Chains → ℕ → ℕ → Type 0
Links old new last at = (edge : Edge) → edge_at old last ≡ Some edge → edge_at new last ≡ Some (record edge { after = Some at })

abbrev pub first_or : ℕ → Option Ends → ℕ
first_or at ends = option_map_or (λ (e : Ends). e.first) ends at

-- the ends of a chain that ends with this edge now
abbrev pub extend_ends : ℕ → Option Ends → Ends
extend_ends at before = record { first = first_or at before; last = at }

-- the last edge of the key's chain is there
abbrev pub HasLast : Chains → Key → Type 0
HasLast c key = (e : Ends) → ends_at c key ≡ Some e → IsSome (edge_at c e.last)

-- the node has an edge of its own after the key's last one
pub record Pushes (old new : Chains) (key : Key) (node : ℕ) : Type 0 where
  pub at : ℕ
  pub fresh : edge_at old at ≡ None
  pub here : edge_at new at ≡ Some (record { node = node; after = None })
  pub link : (e : Ends) (edge : Edge) → ends_at old key ≡ Some e → edge_at old e.last ≡ Some edge → edge_at new e.last ≡ Some (record edge { after = Some at })
  pub same : (j : ℕ) → (j ≡ at → ⊥) → ((e : Ends) → ends_at old key ≡ Some e → e.last ≡ j → ⊥) → edge_at new j ≡ edge_at old j
  pub ends : (k : Key) → ends_at new k ≡ cond (key_eq k key) (Some (record { first = first_or at (ends_at old key); last = at })) (ends_at old k)

-- the key's chain begins with the edge after its first one
pub record Pops (old new : Chains) (key : Key) (e : Ends) (edge : Edge) : Type 0 where
  pub fewer : slots.slab_len new.edges + 1 ≡ slots.slab_len old.edges
  pub same : (j : ℕ) → (j ≡ e.first → ⊥) → edge_at new j ≡ edge_at old j
  pub ends : (k : Key) → ends_at new k ≡ cond (key_eq k key) (option_map (λ first. record { first = first; last = e.last }) edge.after) (ends_at old k)

abbrev pub PopsFirst : Chains → Chains → Key → Type 0
PopsFirst old new key = (e : Ends) (edge : Edge) → ends_at old key ≡ Some e → edge_at old e.first ≡ Some edge → Pops old new key e edge
