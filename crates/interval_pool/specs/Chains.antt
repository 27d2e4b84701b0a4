-- Which cells are in which chain.
use Rattle.std.specs.Prelude.{◌≡◌, ◌≢◌, ℕ, ◌<◌, ◌⊎◌, ⊤, List, [], ◌∷◌, length, Option, Some, None, cond, ◌==◌}
use Rattle.std.specs.List.{AllByRecursion}
use Rattle.interval_pool.specs.declared.cells.Cell.{Cell}
use Rattle.interval_pool.specs.declared.cells.Head.{Head}
use Rattle.interval_pool.specs.Cells.{cell_at, head_at}

-- the first of cells, or else what comes after them
abbrev pub first_or : Option ℕ → List ℕ → Option ℕ
first_or end [] = end
first_or end (i ∷ is) = Some i

-- the last of cells, or else what comes before them
abbrev pub last_or : Option ℕ → List ℕ → Option ℕ
last_or start [] = start
last_or start (i ∷ is) = last_or (Some i) is

-- the cell is there, has this owner, and goes on with this one
pub record IsCell (cells : List Cell) (k i : ℕ) (next : Option ℕ) : Type 0 where
  pub below : i < length cells
  pub owner : (cell_at cells i).owner ≡ k
  pub next_is : (cell_at cells i).next ≡ next

-- cells one after another, and after them this one
abbrev pub AreLinked : List Cell → ℕ → List ℕ → Option ℕ → Type 0
AreLinked cells k [] end = ⊤
AreLinked cells k (i ∷ is) end = IsCell cells k i (first_or end is) × AreLinked cells k is end

abbrev pub AreOnce : List ℕ → Type 0
AreOnce [] = ⊤
AreOnce (i ∷ is) = AllByRecursion (λ j. j ≢ i) is × AreOnce is

abbrev pub IsAmong : ℕ → List ℕ → Type 0
IsAmong i [] = ⊥
IsAmong i (j ∷ js) = (i ≡ j) ⊎ IsAmong i js

-- Each chain has these cells, and each cell is in the chain of its owner, but for one that is in none.
pub record AreChains (cells : List Cell) (heads : List Head) (out : Option ℕ) (chain : ℕ → List ℕ) : Type 0 where
  pub first : (k : ℕ) → (head_at heads k).first ≡ first_or None (chain k)
  pub count : (k : ℕ) → (head_at heads k).len ≡ length (chain k)
  pub linked : (k : ℕ) → AreLinked cells k (chain k) None
  pub once : (k : ℕ) → AreOnce (chain k)
  pub whole : (i : ℕ) → i < length cells → (out ≡ Some i) ⊎ IsAmong i (chain (cell_at cells i).owner)
  pub apart : (i k : ℕ) → out ≡ Some i → AllByRecursion (λ j. j ≢ i) (chain k)

-- the chains with another one at this place
abbrev pub with_chain : (ℕ → List ℕ) → ℕ → List ℕ → ℕ → List ℕ
with_chain chain k is m = cond (m == k) is (chain m)
