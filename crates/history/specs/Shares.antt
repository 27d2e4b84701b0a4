-- Shares of the sources, each applied to the opening rows without the others.
use Rattle.std.specs.Prelude.{◌≡◌, ℕ, ◌<◌, ◌==◌, Bool, true, List, length, slice_get, Some, Ok, IsOk}
use Rattle.gtid_text.specs.declared.Gtid.{Gtid}
use Rattle.rows.specs.Apply.{Rows}
use Rattle.rows.specs.Parts.{AreParts}
use Rattle.history.specs.Sources.{World, rows_of, AreKeysSound, IsSound}

-- the GTIDs of the sources that pass
abbrev pub of_sources : (ℕ → Bool) → Gtid → Bool
of_sources p g = p g.source

-- Each source is in a share, and these are the rows of each share.
pub record AreShares (world : World) (share : ℕ → ℕ) (parts : List Rows) : Type 0 where
  pub below : (s : ℕ) → share s < length parts
  pub each : (i : ℕ) (part : Rows) → slice_get parts i ≡ Some part → rows_of world (of_sources (λ s. share s == i)) ≡ Ok part

-- If the keys are sound, shares that are applied each to the opening rows are the parts of the rows of all.
pub record SharesAreParts : Type 0 where
  -- if each share applies, the world is sound
  pub sound : (world : World) (share : ℕ → ℕ) (parts : List Rows) → AreKeysSound world → AreShares world share parts → IsSound world
  -- if the world is sound, all apply together
  pub applies : (world : World) → IsSound world → IsOk (rows_of world (λ g. true))
  -- the rows of the shares are parts of those of all
  pub parts : (world : World) (share : ℕ → ℕ) (parts : List Rows) (whole : Rows) → AreKeysSound world → AreShares world share parts
      → rows_of world (λ g. true) ≡ Ok whole → AreParts world.opening_rows parts whole
