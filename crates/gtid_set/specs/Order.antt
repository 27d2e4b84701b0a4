-- The order of sources, kept block by block.
use Rattle.std.specs.Prelude.{◌≡◌, ℕ, Bool, true, false, ◌+◌, ◌<◌, ◌≤◌, ◌⊎◌, nat_lt, List, [], length, take, Some, slice_index_or}
use Rattle.std.specs.List.{concat, list_all, slice_get}
use Rattle.gtid_set.specs.declared.order.Seat.{Seat}
use Rattle.gtid_set.specs.declared.sources.SourceList.{SourceList}
use Rattle.gtid_set.specs.Kept.{sources_at}

-- how many come before a seat: those of the blocks before, and those before it in its block
abbrev pub index_of : List (List ℕ) → Seat → ℕ
index_of blocks seat = length (concat (take seat.block blocks)) + seat.offset

-- the block at a place; beyond the last none are in it
abbrev pub block_at : List (List ℕ) → ℕ → List ℕ
block_at blocks i = slice_index_or blocks i []

-- a seat is one of a block's, or after all blocks
abbrev pub IsSeat : List (List ℕ) → Seat → Type 0
IsSeat blocks seat = (seat.offset < length (block_at blocks seat.block)) ⊎ (length blocks ≤ seat.block)

-- none are left in a block only if none are after it
abbrev pub IsSettled : List ℕ → List (List ℕ) → Type 0
IsSettled here blocks = here ≡ [] → concat blocks ≡ []

-- ---- the search for a source among blocks

-- the sources at places are less than another
abbrev pub are_below : List SourceList → ℕ → List ℕ → Bool
are_below sources id places = list_all (λ s. nat_lt s.id id) (sources_at sources places)

-- one of the sources at places is not less than another
pub record HasFrom (sources : List SourceList) (places : List ℕ) (id : ℕ) : Type 0 where
  pub at : ℕ
  pub source : SourceList
  pub got : slice_get (sources_at sources places) at ≡ Some source
  pub from : nat_lt source.id id ≡ false

-- the first of the sources at places is less than another
pub record BeginsBelow (sources : List SourceList) (places : List ℕ) (id : ℕ) : Type 0 where
  pub source : SourceList
  pub got : slice_get (sources_at sources places) 0 ≡ Some source
  pub below : nat_lt source.id id ≡ true

-- the block in which a source's seat is: all before are less, and not all of its own; or it is after all blocks
pub record IsBlockOf (sources : List SourceList) (blocks : List (List ℕ)) (id b : ℕ) : Type 0 where
  pub before : are_below sources id (concat (take b blocks)) ≡ true
  pub ends : b < length blocks → HasFrom sources (block_at blocks b) id
