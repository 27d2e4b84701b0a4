-- The place of a number among the cells of a list.
use Rattle.std.specs.Prelude.{◌≡◌, ℕ, ◌+◌, ◌<◌, ◌≤◌, ⊤, List, [], ◌∷◌, ◌++◌, length, map, Option, Some, None}
use Rattle.std.specs.List.{AllByRecursion}
use Rattle.interval_pool.specs.declared.cells.Cell.{Cell}
use Rattle.interval_pool.specs.declared.cells.Head.{Head}
use Rattle.interval_pool.specs.declared.interval.Interval.{Interval}
use Rattle.interval_pool.specs.Cells.{cell_at, head_at}
use Rattle.interval_pool.specs.Chains.{first_or, last_or}
use Rattle.interval_pool.specs.Intervals.{AreMerged}
use Rattle.interval_pool.specs.Pools.{interval_at, chain_of}

-- the cells of a chain ascend
abbrev pub IsAscending : List Cell → List ℕ → Type 0
IsAscending cells is = AreMerged (map (interval_at cells) is)

-- all of these end below a number
abbrev pub AreBelow : List Cell → ℕ → List ℕ → Type 0
AreBelow cells n is = AllByRecursion (λ i. (cell_at cells i).hi < n) is

-- the first of these, if there is one, does not
abbrev pub Reaches : List Cell → ℕ → List ℕ → Type 0
Reaches cells n [] = ⊤
Reaches cells n (i ∷ is) = n ≤ (cell_at cells i).hi

-- no cell, or one of this owner that ends below a number
abbrev pub IsStart : List Cell → ℕ → ℕ → Option ℕ → Type 0
IsStart cells k n None = ⊤
IsStart cells k n (Some i) = (i < length cells) × ((cell_at cells i).owner ≡ k) × ((cell_at cells i).hi < n)

-- The cells up to this one end below a number. Then come at most so many.
pub record IsPassed (cells : List Cell) (heads : List Head) (k n : ℕ) (before at : Option ℕ) (left : ℕ) : Type 0 where
  pub xs : List ℕ
  pub ys : List ℕ
  pub parts : chain_of cells heads k ≡ xs ++ ys
  pub before_is : before ≡ last_or None xs
  pub at_is : at ≡ first_or None ys
  pub below : AreBelow cells n xs
  pub few : length ys ≤ left

-- the last cell that ends below a number
pub record IsPlace (cells : List Cell) (heads : List Head) (k n : ℕ) (before : Option ℕ) : Type 0 where
  pub xs : List ℕ
  pub ys : List ℕ
  pub parts : chain_of cells heads k ≡ xs ++ ys
  pub before_is : before ≡ last_or None xs
  pub below : AreBelow cells n xs
  pub reaches : Reaches cells n ys

-- none if a list has no cells, or a cell of it with none after it
abbrev pub IsEnd : List Cell → List Head → ℕ → Option ℕ → Type 0
IsEnd cells heads k None = (head_at heads k).len ≡ 0
IsEnd cells heads k (Some i) = (i < length cells) × ((cell_at cells i).owner ≡ k) × ((cell_at cells i).next ≡ None)

-- numbers begin in the last cell of a list, or right after it
abbrev pub TouchesEnd : List Cell → List Head → ℕ → Interval → Option ℕ → Type 0
TouchesEnd cells heads k s None = ⊥
TouchesEnd cells heads k s (Some i) = IsEnd cells heads k (Some i) × (((cell_at cells i).lo ≤ s.lo) × (s.lo ≤ (cell_at cells i).hi + 1))

-- they begin further after it, or the list is empty
abbrev pub IsBehind : List Cell → List Head → ℕ → Interval → Option ℕ → Type 0
IsBehind cells heads k s None = IsEnd cells heads k None
IsBehind cells heads k s (Some i) = IsEnd cells heads k (Some i) × ((cell_at cells i).hi + 1 < s.lo)
