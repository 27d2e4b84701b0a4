-- A way along the cells of a list.
use Rattle.std.specs.Prelude.{◌≡◌, ℕ, suc, ◌-◌, ◌≤◌, List, [], ◌∷◌, length, map, drop, Option, Some, None}
use Rattle.interval_pool.specs.declared.cells.Cell.{Cell}
use Rattle.interval_pool.specs.declared.interval.Interval.{Interval}
use Rattle.interval_pool.specs.Chains.{first_or, AreLinked}
use Rattle.interval_pool.specs.Links.{most_cells}
use Rattle.interval_pool.specs.Pools.{walk, interval_at}

-- the intervals of the cells from one on
abbrev pub intervals_from : List Cell → Option ℕ → List Interval
intervals_from cells at = map (interval_at cells) (walk cells (length cells) at)

-- the cells from one on are those of a list, up to its last
pub record IsWalk (cells : List Cell) (at : Option ℕ) : Type 0 where
  pub owner : ℕ
  pub chain : List ℕ
  pub linked : AreLinked cells owner chain None
  pub begins : at ≡ first_or None chain
  pub few : length chain ≤ length cells
  pub small : length cells ≤ most_cells

-- the place of the first of the last cells, if there are such
abbrev pub place_in : List Cell → List Cell → Option ℕ
place_in cells [] = None
place_in cells (c ∷ rest) = Some (length cells - suc (length rest))

-- the last cells, from the one at which a way goes on
pub record IsWay (cells rest : List Cell) : Type 0 where
  pub walks : IsWalk cells (place_in cells rest)
  pub last : rest ≡ drop (length cells - length rest) cells
  pub within : length rest ≤ length cells
