-- A pool of lists of intervals, kept in chains of cells. The first chain has the free cells.
use Rattle.std.specs.Prelude.{◌≡◌, ◌≢◌, ℕ, zero, suc, ◌+◌, ◌<◌, ◌≤◌, List, [], ◌∷◌, ◌++◌, length, map, Option, Some, None}
use Rattle.std.specs.List.{AllByRecursion}
use Rattle.interval_pool.specs.declared.cells.Cell.{Cell}
use Rattle.interval_pool.specs.declared.cells.Head.{Head}
use Rattle.interval_pool.specs.Cells.{cell_at, head_at, after}
use Rattle.interval_pool.specs.Links.{most_cells}
use Rattle.interval_pool.specs.Chains.{last_or, AreChains, with_chain}
use Rattle.interval_pool.specs.declared.interval.Interval.{Interval}

-- the cells from one on, at most so many
abbrev pub walk : List Cell → ℕ → Option ℕ → List ℕ
walk cells zero at = []
walk cells (suc n) None = []
walk cells (suc n) (Some i) = i ∷ walk cells n (cell_at cells i).next

-- the cells of a chain
abbrev pub chain_of : List Cell → List Head → ℕ → List ℕ
chain_of cells heads k = walk cells (head_at heads k).len (head_at heads k).first

-- the cells of a chain after one of them, or all
abbrev pub rest_of : List Cell → List Head → ℕ → Option ℕ → List ℕ
rest_of cells heads k before = walk cells (head_at heads k).len (after cells heads k before)

-- each cell is in the chain of its owner
abbrev pub AreWhole : List Cell → List Head → Type 0
AreWhole cells heads = AreChains cells heads None (chain_of cells heads)

-- but for this one, which is in none
abbrev pub AreWholeBut : List Cell → List Head → ℕ → Type 0
AreWholeBut cells heads i = AreChains cells heads (Some i) (chain_of cells heads)

-- the numbers of a cell
abbrev pub interval_at : List Cell → ℕ → Interval
interval_at cells i = record { lo = (cell_at cells i).lo; hi = (cell_at cells i).hi }

-- what a change of links leaves as it was
pub record KeepsIntervals (cells : List Cell) (heads : List Head) (cells' : List Cell) (heads' : List Head) : Type 0 where
  pub as_many : length cells' ≡ length cells
  pub as_many_chains : length heads' ≡ length heads
  pub intervals : (i : ℕ) → interval_at cells' i ≡ interval_at cells i
  pub lists : (k : ℕ) → (head_at heads' k).is_list ≡ (head_at heads k).is_list

-- the cell after some of a chain has left it
pub record Unlinked (cells : List Cell) (heads : List Head) (k : ℕ) (xs : List ℕ) (i : ℕ) (ys : List ℕ) (at : Option ℕ) (cells' : List Cell) (heads' : List Head) : Type 0 where
  pub found : at ≡ Some i
  pub below : i < length cells
  pub whole : AreWholeBut cells' heads' i
  pub chains : (m : ℕ) → chain_of cells' heads' m ≡ with_chain (chain_of cells heads) k (xs ++ ys) m
  pub keeps : KeepsIntervals cells heads cells' heads'

abbrev pub Unlinks : List Cell → List Head → ℕ → Option ℕ → Option ℕ → List Cell → List Head → Type 0
Unlinks cells heads k before at cells' heads' =
    (xs : List ℕ) (i : ℕ) (ys : List ℕ) → AreWhole cells heads → k < length heads → chain_of cells heads k ≡ xs ++ i ∷ ys → before ≡ last_or None xs
    → Unlinked cells heads k xs i ys at cells' heads'

-- the cell is in a chain after some of its cells
pub record Linked (cells : List Cell) (heads : List Head) (k : ℕ) (xs : List ℕ) (i : ℕ) (ys : List ℕ) (cells' : List Cell) (heads' : List Head) : Type 0 where
  pub whole : AreWhole cells' heads'
  pub chains : (m : ℕ) → chain_of cells' heads' m ≡ with_chain (chain_of cells heads) k (xs ++ i ∷ ys) m
  pub keeps : KeepsIntervals cells heads cells' heads'

abbrev pub Links : List Cell → List Head → ℕ → Option ℕ → ℕ → List Cell → List Head → Type 0
Links cells heads k before i cells' heads' =
    (xs ys : List ℕ) → AreWholeBut cells heads i → length cells ≤ most_cells → k < length heads → i < length cells → chain_of cells heads k ≡ xs ++ ys → before ≡ last_or None xs
    → Linked cells heads k xs i ys cells' heads'

-- ---- the cells of a list

-- all chains but a list's and that of the free cells are as they were
pub record KeepsOthers (cells : List Cell) (heads : List Head) (k : ℕ) (cells' : List Cell) (heads' : List Head) : Type 0 where
  pub whole : AreWhole cells' heads'
  pub as_many_chains : length heads' ≡ length heads
  pub lists : (m : ℕ) → (head_at heads' m).is_list ≡ (head_at heads m).is_list
  pub chains : (m : ℕ) → m ≢ 0 → m ≢ k → chain_of cells' heads' m ≡ chain_of cells heads m
  pub intervals : (m : ℕ) → m ≢ 0 → m ≢ k → map (interval_at cells') (chain_of cells heads m) ≡ map (interval_at cells) (chain_of cells heads m)

-- the cell after some of a list is free
pub record Freed (cells : List Cell) (heads : List Head) (k : ℕ) (xs : List ℕ) (i : ℕ) (ys : List ℕ) (cells' : List Cell) (heads' : List Head) : Type 0 where
  pub keeps : KeepsOthers cells heads k cells' heads'
  pub as_many : length cells' ≡ length cells
  pub all_intervals : (j : ℕ) → interval_at cells' j ≡ interval_at cells j
  pub list : chain_of cells' heads' k ≡ xs ++ ys
  pub free : chain_of cells' heads' 0 ≡ i ∷ chain_of cells heads 0

abbrev pub Frees : List Cell → List Head → ℕ → Option ℕ → List Cell → List Head → Type 0
Frees cells heads k before cells' heads' =
    (xs : List ℕ) (i : ℕ) (ys : List ℕ) → AreWhole cells heads → length cells ≤ most_cells → k ≢ 0 → k < length heads
    → chain_of cells heads k ≡ xs ++ i ∷ ys → before ≡ last_or None xs → Freed cells heads k xs i ys cells' heads'

-- a cell more is free
pub record Grown (cells : List Cell) (heads : List Head) (cells' : List Cell) (heads' : List Head) : Type 0 where
  pub keeps : KeepsOthers cells heads 0 cells' heads'
  pub as_many : length cells' ≡ length cells + 1
  pub free : chain_of cells' heads' 0 ≡ length cells ∷ chain_of cells heads 0

abbrev pub Grows : List Cell → List Head → List Cell → List Head → Type 0
Grows cells heads cells' heads' = AreWhole cells heads → length cells < most_cells → 0 < length heads → Grown cells heads cells' heads'

-- the first free cell has these numbers, and is in a list after some of its cells
pub record Placed (cells : List Cell) (heads : List Head) (k : ℕ) (xs ys : List ℕ) (i : ℕ) (rest : List ℕ) (numbers : Interval) (cells' : List Cell) (heads' : List Head) : Type 0 where
  pub keeps : KeepsOthers cells heads k cells' heads'
  pub as_many : length cells' ≡ length cells
  pub here : interval_at cells' i ≡ numbers
  pub others : (j : ℕ) → j ≢ i → interval_at cells' j ≡ interval_at cells j
  pub apart : AllByRecursion (λ j. j ≢ i) (xs ++ ys)
  pub list : chain_of cells' heads' k ≡ xs ++ i ∷ ys
  pub free : chain_of cells' heads' 0 ≡ rest

abbrev pub Places : List Cell → List Head → ℕ → Option ℕ → Interval → List Cell → List Head → Type 0
Places cells heads k before numbers cells' heads' =
    (xs ys : List ℕ) (i : ℕ) (rest : List ℕ) → AreWhole cells heads → length cells ≤ most_cells → k ≢ 0 → k < length heads
    → chain_of cells heads 0 ≡ i ∷ rest → chain_of cells heads k ≡ xs ++ ys → before ≡ last_or None xs → Placed cells heads k xs ys i rest numbers cells' heads'

-- some cells after others of a list are free
pub record FreedSome (cells : List Cell) (heads : List Head) (k : ℕ) (xs zs ys : List ℕ) (cells' : List Cell) (heads' : List Head) : Type 0 where
  pub keeps : KeepsOthers cells heads k cells' heads'
  pub as_many : length cells' ≡ length cells
  pub all_intervals : (j : ℕ) → interval_at cells' j ≡ interval_at cells j
  pub list : chain_of cells' heads' k ≡ xs ++ ys
  pub more : List ℕ
  pub as_many_free : length more ≡ length zs
  pub free : chain_of cells' heads' 0 ≡ more ++ chain_of cells heads 0

abbrev pub FreesSome : List Cell → List Head → ℕ → Option ℕ → ℕ → List Cell → List Head → Type 0
FreesSome cells heads k before n cells' heads' =
    (xs zs ys : List ℕ) → AreWhole cells heads → length cells ≤ most_cells → k ≢ 0 → k < length heads
    → chain_of cells heads k ≡ xs ++ (zs ++ ys) → before ≡ last_or None xs → length zs ≡ n → FreedSome cells heads k xs zs ys cells' heads'
