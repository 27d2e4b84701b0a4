-- Rows that came from the same opening rows and changed under different keys: parts of a whole.
use Rattle.std.specs.Prelude.{◌≡◌, ◌⊎◌, ℕ, List, Some, slice_get}
use Rattle.std.specs.FinMap.{get}
use Rattle.rows.specs.Apply.{Rows}
use Rattle.rows.specs.declared.change.Key.{Key}

-- under each key one of them at least has what was there from the start
abbrev pub ChangedApart : Rows → Rows → Rows → Type 0
ChangedApart opening a b = (k : Key) → (get a k ≡ get opening k) ⊎ (get b k ≡ get opening k)

-- Under each key each part has what was there from the start or what the whole has, the whole has what was there or what a part has, and
-- of two parts one at most has something else than was there.
pub record AreParts (opening : Rows) (parts : List Rows) (whole : Rows) : Type 0 where
  pub each : (k : Key) (i : ℕ) (part : Rows) → slice_get parts i ≡ Some part → (get part k ≡ get opening k) ⊎ (get part k ≡ get whole k)
  pub some : (k : Key) → (get whole k ≡ get opening k) ⊎ ((i : ℕ) × (part : Rows) × (slice_get parts i ≡ Some part) × (get part k ≡ get whole k))
  pub apart : (i j : ℕ) (a b : Rows) → (i ≡ j → ⊥) → slice_get parts i ≡ Some a → slice_get parts j ≡ Some b → ChangedApart opening a b
