-- What changes of a list leave.
use Rattle.std.specs.Prelude.{◌≡◌, ◌≢◌, ℕ, ◌+◌, ◌-◌, ◌<◌, ◌≤◌, ◌⊎◌, Bool, true, false, not, ◌&&◌, ◌||◌, List, [], ◌∷◌, ◌++◌, length, map, drop, min, Option, Some, None, option_to_list}
use Rattle.interval_pool.specs.declared.cells.Cell.{Cell}
use Rattle.interval_pool.specs.declared.cells.Head.{Head}
use Rattle.interval_pool.specs.declared.interval.Interval.{Interval}
use Rattle.interval_pool.specs.declared.interval.Pieces.{Pieces}
use Rattle.interval_pool.specs.Links.{most_cells}
use Rattle.interval_pool.specs.Cells.{head_at}
use Rattle.interval_pool.specs.Chains.{last_or}
use Rattle.interval_pool.specs.Intervals.{has, covers, list_of_pieces, AreMerged}
use Rattle.interval_pool.specs.Pools.{chain_of, interval_at, AreWhole, KeepsOthers}

-- the intervals of a chain
abbrev pub spans_of : List Cell → List Head → ℕ → List Interval
spans_of cells heads k = map (interval_at cells) (chain_of cells heads k)

-- how many cells are free
abbrev pub free_count : List Cell → List Head → ℕ
free_count cells heads = length (chain_of cells heads 0)

-- there are as many free cells as needed, with those that will be freed, and all lists are as they were
pub record HasRoom (cells : List Cell) (heads : List Head) (freed needed : ℕ) (cells' : List Cell) (heads' : List Head) : Type 0 where
  pub keeps : KeepsOthers cells heads 0 cells' heads'
  pub enough : needed ≤ free_count cells' heads' + freed
  pub small : length cells' ≤ most_cells
  pub total : free_count cells' heads' + length cells ≡ free_count cells heads + length cells'
  pub more : (length cells' ≡ length cells) ⊎ ((free_count cells heads ≡ 0) × (free_count cells' heads' + freed ≡ needed) × (length cells' ≡ length cells + 1))

abbrev pub MakesRoom : List Cell → List Head → ℕ → ℕ → List Cell → List Head → Type 0
MakesRoom cells heads freed needed cells' heads' =
    AreWhole cells heads → length cells ≤ most_cells → 0 < length heads → needed ≤ freed + 1 → HasRoom cells heads freed needed cells' heads'

-- none or one interval is in a list after some of its cells
pub record Set (cells : List Cell) (heads : List Head) (k : ℕ) (xs ys : List ℕ) (some : Option Interval) (cells' : List Cell) (heads' : List Head) : Type 0 where
  pub keeps : KeepsOthers cells heads k cells' heads'
  pub as_many : length cells' ≡ length cells
  pub zs : List ℕ
  pub list : chain_of cells' heads' k ≡ xs ++ (zs ++ ys)
  pub here : map (interval_at cells') zs ≡ option_to_list some
  pub before : map (interval_at cells') xs ≡ map (interval_at cells) xs
  pub behind : map (interval_at cells') ys ≡ map (interval_at cells) ys
  pub total : free_count cells' heads' + length (option_to_list some) ≡ free_count cells heads

abbrev pub Sets : List Cell → List Head → ℕ → Option ℕ → Option Interval → List Cell → List Head → Type 0
Sets cells heads k before some cells' heads' =
    (xs ys : List ℕ) → AreWhole cells heads → length cells ≤ most_cells → k ≢ 0 → k < length heads → chain_of cells heads k ≡ xs ++ ys → before ≡ last_or None xs
    → length (option_to_list some) ≤ free_count cells heads → Set cells heads k xs ys some cells' heads'

-- intervals are in a list in place of some number of cells after a place
pub record Put (cells : List Cell) (heads : List Head) (k : ℕ) (xs ys : List ℕ) (n : ℕ) (pieces : List Interval) (cells' : List Cell) (heads' : List Head) : Type 0 where
  pub keeps : KeepsOthers cells heads k cells' heads'
  pub as_many : length cells' ≡ length cells
  pub spans : spans_of cells' heads' k ≡ map (interval_at cells) xs ++ (pieces ++ drop n (map (interval_at cells) ys))
  pub total : free_count cells' heads' + length pieces ≡ free_count cells heads + n

abbrev pub Puts : List Cell → List Head → ℕ → Option ℕ → ℕ → Pieces → List Cell → List Head → Type 0
Puts cells heads k before n pieces cells' heads' =
    (xs ys : List ℕ) → AreWhole cells heads → length cells ≤ most_cells → k ≢ 0 → k < length heads → chain_of cells heads k ≡ xs ++ ys → before ≡ last_or None xs
    → n ≤ length ys → length (list_of_pieces pieces) ≤ free_count cells heads + n → Put cells heads k xs ys n (list_of_pieces pieces) cells' heads'

-- the same, but one more cell is made if it is needed and none is free
pub record Replaced (cells : List Cell) (heads : List Head) (k : ℕ) (xs ys : List ℕ) (n : ℕ) (pieces : List Interval) (cells' : List Cell) (heads' : List Head) : Type 0 where
  pub keeps : KeepsOthers cells heads k cells' heads'
  pub small : length cells' ≤ most_cells
  pub spans : spans_of cells' heads' k ≡ map (interval_at cells) xs ++ (pieces ++ drop n (map (interval_at cells) ys))
  pub total : free_count cells' heads' + length pieces + length cells ≡ free_count cells heads + n + length cells'
  pub more : (length cells' ≡ length cells) ⊎ ((free_count cells heads ≡ 0) × (free_count cells' heads' ≡ 0) × (length cells' ≡ length cells + 1))

abbrev pub Replaces : List Cell → List Head → ℕ → Option ℕ → ℕ → Pieces → List Cell → List Head → Type 0
Replaces cells heads k before n pieces cells' heads' =
    (xs ys : List ℕ) → AreWhole cells heads → length cells ≤ most_cells → k ≢ 0 → k < length heads → chain_of cells heads k ≡ xs ++ ys → before ≡ last_or None xs
    → n ≤ length ys → length (list_of_pieces pieces) ≤ n + 1 → Replaced cells heads k xs ys n (list_of_pieces pieces) cells' heads'

-- a cell more comes after the last of a list, with these numbers
pub record Pushed (cells : List Cell) (heads : List Head) (k : ℕ) (s : Interval) (cells' : List Cell) (heads' : List Head) : Type 0 where
  pub keeps : KeepsOthers cells heads k cells' heads'
  pub as_many : length cells' ≡ length cells + 1
  pub list : chain_of cells' heads' k ≡ chain_of cells heads k ++ length cells ∷ []
  pub spans : spans_of cells' heads' k ≡ spans_of cells heads k ++ s ∷ []
  pub free : chain_of cells' heads' 0 ≡ chain_of cells heads 0

abbrev pub Pushes : List Cell → List Head → ℕ → Option ℕ → Interval → List Cell → List Head → Type 0
Pushes cells heads k last s cells' heads' =
    AreWhole cells heads → length cells < most_cells → k ≢ 0 → k < length heads → last ≡ last_or None (chain_of cells heads k) → Pushed cells heads k s cells' heads'

-- an interval comes after the last of a list, in a free cell if there is one
abbrev pub PutsLast : List Cell → List Head → ℕ → Option ℕ → Interval → List Cell → List Head → Type 0
PutsLast cells heads k last s cells' heads' =
    AreWhole cells heads → length cells ≤ most_cells → k ≢ 0 → k < length heads → last ≡ last_or None (chain_of cells heads k) → Replaced cells heads k (chain_of cells heads k) [] 0 (s ∷ []) cells' heads'

-- what comes after a cell before these intervals
abbrev pub next_of : List Interval → ℕ → Option ℕ
next_of [] at = None
next_of (s ∷ ss) at = Some at

-- cells of a list from a place on, one leading to another, with these intervals
abbrev pub run : ℕ → ℕ → List Interval → List Cell
run k at [] = []
run k at (s ∷ ss) = record { lo = s.lo; hi = s.hi; next = next_of ss (at + 1); owner = k } ∷ run k (at + 1) ss

-- intervals come after the last of a list
pub record Prolonged (cells : List Cell) (heads : List Head) (k : ℕ) (ss : List Interval) (cells' : List Cell) (heads' : List Head) : Type 0 where
  pub keeps : KeepsOthers cells heads k cells' heads'
  pub small : length cells' ≤ most_cells
  pub spans : spans_of cells' heads' k ≡ spans_of cells heads k ++ ss
  pub more : length cells ≤ length cells'
  pub total : free_count cells' heads' + length ss + length cells ≡ free_count cells heads + length cells'

-- they stand in free cells, the last of them in this one
pub record PlacedRun (cells : List Cell) (heads : List Head) (k : ℕ) (ss : List Interval) (end : Option ℕ) (cells' : List Cell) (heads' : List Head) : Type 0 where
  pub made : Prolonged cells heads k ss cells' heads'
  pub as_many : length cells' ≡ length cells
  pub end_is : end ≡ last_or None (chain_of cells' heads' k)

abbrev pub PlacesRun : List Cell → List Head → ℕ → Option ℕ → List Interval → Option ℕ → List Cell → List Head → Type 0
PlacesRun cells heads k last ss end cells' heads' =
    AreWhole cells heads → length cells ≤ most_cells → k ≢ 0 → k < length heads → last ≡ last_or None (chain_of cells heads k) → length ss ≤ free_count cells heads → PlacedRun cells heads k ss end cells' heads'

-- they stand in new cells
abbrev pub PushesRun : List Cell → List Head → ℕ → Option ℕ → List Interval → List Cell → List Head → Type 0
PushesRun cells heads k last ss cells' heads' =
    AreWhole cells heads → k ≢ 0 → last ≡ last_or None (chain_of cells heads k) → Prolonged cells heads k ss cells' heads'

-- the cell after some of a list has other numbers
abbrev pub Renews : List Cell → List Head → ℕ → Option ℕ → Interval → List Cell → Type 0
Renews cells heads k before s cells' =
    (xs : List ℕ) (i : ℕ) (ys : List ℕ) → AreWhole cells heads → length cells ≤ most_cells → chain_of cells heads k ≡ xs ++ i ∷ ys → before ≡ last_or None xs → Replaced cells heads k xs (i ∷ ys) 1 (s ∷ []) cells' heads

-- a list has the numbers that pass a test, and one more cell only if it needs one and none was free
pub record Changed (cells : List Cell) (heads : List Head) (k : ℕ) (among : ℕ → Bool) (cells' : List Cell) (heads' : List Head) : Type 0 where
  pub keeps : KeepsOthers cells heads k cells' heads'
  pub small : length cells' ≤ most_cells
  pub merged : AreMerged (spans_of cells' heads' k)
  pub numbers : (n : ℕ) → has (spans_of cells' heads' k) n ≡ among n
  pub few : length (spans_of cells' heads' k) ≤ length (spans_of cells heads k) + 1
  pub total : free_count cells' heads' + length (spans_of cells' heads' k) + length cells ≡ free_count cells heads + length (spans_of cells heads k) + length cells'
  pub more : (length cells' ≡ length cells) ⊎ ((free_count cells heads ≡ 0) × (free_count cells' heads' ≡ 0) × (length cells' ≡ length cells + 1))

-- the numbers of a list and of an interval, and those of a list without an interval
abbrev pub with_more : List Interval → Interval → ℕ → Bool
with_more ss s n = has ss n || covers s n

abbrev pub without : List Interval → Interval → ℕ → Bool
without ss s n = has ss n && not (covers s n)

abbrev pub Added : List Cell → List Head → ℕ → Interval → List Cell → List Head → Type 0
Added cells heads k s cells' heads' = Changed cells heads k (with_more (spans_of cells heads k) s) cells' heads'

abbrev pub Cut : List Cell → List Head → ℕ → Interval → List Cell → List Head → Type 0
Cut cells heads k s cells' heads' = Changed cells heads k (without (spans_of cells heads k) s) cells' heads'

-- no cell is free, and the vector has no room for one more, or may have none
pub record IsSpent (cells : List Cell) (heads : List Head) (capacity : ℕ) : Type 0 where
  pub free : free_count cells heads ≡ 0
  pub room : min capacity most_cells ≤ length cells

abbrev pub Spends : List Cell → List Head → ℕ → Type 0
Spends cells heads capacity = AreWhole cells heads → IsSpent cells heads capacity

-- the free cells, with those for which the vector has room, are fewer than these
abbrev pub IsSpentBy : ℕ → List Cell → List Head → ℕ → Type 0
IsSpentBy n cells heads capacity = free_count cells heads + (min capacity most_cells - length cells) < n

-- ---- lists begin and end

-- a chain is a list, or is none
pub record Relisted (heads : List Head) (k : ℕ) (b : Bool) (heads' : List Head) : Type 0 where
  pub now : head_at heads' k ≡ record (head_at heads k) { is_list = b }
  pub others : (m : ℕ) → m ≢ k → head_at heads' m ≡ head_at heads m

-- a chain that was no list is one
pub record Claimed (heads : List Head) (k : ℕ) (heads' : List Head) : Type 0 where
  pub not_free : k ≢ 0
  pub was : (head_at heads k).is_list ≡ false
  pub list : Relisted heads k true heads'

-- all chains that there may be are lists
abbrev pub AreAllClaimed : List Head → Type 0
AreAllClaimed heads = (k : ℕ) → 1 ≤ k → k ≤ most_cells → (head_at heads k).is_list ≡ true

-- this chain is no list
abbrev pub IsUnused : List Head → ℕ → Type 0
IsUnused heads k = (1 ≤ k) × (k < length heads) × ((head_at heads k).is_list ≡ false)

-- the cells of a list are free, and it is none
pub record Dropped (cells : List Cell) (heads : List Head) (k : ℕ) (cells' : List Cell) (heads' : List Head) : Type 0 where
  pub whole : AreWhole cells' heads'
  pub as_many : length cells' ≡ length cells
  pub as_many_chains : length heads' ≡ length heads
  pub none : (head_at heads' k).is_list ≡ false
  pub empty : chain_of cells' heads' k ≡ []
  pub lists : (m : ℕ) → m ≢ k → (head_at heads' m).is_list ≡ (head_at heads m).is_list
  pub chains : (m : ℕ) → m ≢ 0 → m ≢ k → chain_of cells' heads' m ≡ chain_of cells heads m
  pub intervals : (i : ℕ) → interval_at cells' i ≡ interval_at cells i
  pub free : free_count cells' heads' ≡ free_count cells heads + length (spans_of cells heads k)

abbrev pub Drops : List Cell → List Head → ℕ → List Cell → List Head → Type 0
Drops cells heads k cells' heads' = AreWhole cells heads → length cells ≤ most_cells → k ≢ 0 → k < length heads → Dropped cells heads k cells' heads'
