-- How ready numbers are counted in blocks.
use Rattle.std.specs.Prelude.{ℕ, zero, suc, ◌+◌, ◌-◌, ◌*◌, ◌≡◌, ◌≤◌, ◌<◌, ◌⊎◌, Bool, false, not, ◌&&◌, cond, nat_lt, nat_eq, List, [], ◌∷◌, length, slice_index_or, Result, OnOk}
use Rattle.dependency_graph.specs.declared.ready.Level.{Level}
use Rattle.dependency_graph.specs.declared.ready.Ready.{Ready}
use Rattle.dependency_graph.specs.declared.graph.GraphNode.{GraphNode}

-- how many of the k numbers from one on pass
abbrev pub tally : (ℕ → Bool) → ℕ → ℕ → ℕ
tally p at zero = 0
tally p at (suc k) = cond (p at) 1 0 + tally p (suc at) k

-- the count of a block; one that is not kept has none
abbrev pub count_at : Level → ℕ → ℕ
count_at l b = cond (nat_lt b l.first) 0 (slice_index_or l.counts.items (b - l.first) 0)

-- blocks of this width count the numbers that pass, and those of all numbers from base to end are kept
pub record IsLevelOf (w : ℕ) (l : Level) (base end : ℕ) (p : ℕ → Bool) : Type 0 where
  pub low : l.first * w ≤ base
  pub high : end ≤ (l.first + length l.counts.items) * w
  pub tells : (b : ℕ) → count_at l b ≡ tally p (b * w) w

-- the numbers that pass are listed
pub record IsListing (r : Ready) (base end : ℕ) (p : ℕ → Bool) : Type 0 where
  pub small : IsLevelOf 64 r.small base end p
  pub middle : IsLevelOf 4096 r.middle base end p
  pub large : IsLevelOf 262144 r.large base end p

-- a number that did not pass does now, if so it is
pub record Turns (p q : ℕ → Bool) (n : ℕ) (now : Bool) : Type 0 where
  pub before : p n ≡ false
  pub after : q n ≡ now
  pub others : (m : ℕ) → (m ≡ n → ⊥) → q m ≡ p m

-- what is listed before a number stays so, and the number has room
abbrev pub HasRoomAt : ℕ → Ready → Ready → Type 0
HasRoomAt n old new = (base : ℕ) (p : ℕ → Bool) → base ≤ n → IsListing old base n p → IsListing new base (n + 1) p

-- a number that was not listed is now, if it is wanted
abbrev pub Inserts : ℕ → Bool → Ready → Ready → Type 0
Inserts n wanted old new = (base end : ℕ) (p q : ℕ → Bool) → base ≤ n → n < end → Turns p q n wanted → IsListing old base end p → IsListing new base end q

-- a number is not listed any more, if it was
abbrev pub Removes : ℕ → Bool → Ready → Ready → Type 0
Removes n was old new = (base end : ℕ) (p q : ℕ → Bool) → base ≤ n → n < end → Turns p q n was → IsListing old base end q → IsListing new base end p

-- what is listed from a number on stays so, if nothing below it passes
abbrev pub Forgets : ℕ → Ready → Ready → Type 0
Forgets base old new = (first end : ℕ) (p : ℕ → Bool) → first ≤ base → base ≤ end → ((m : ℕ) → m < base → p m ≡ false) → IsListing old first end p → IsListing new base end p

-- the block has a place
abbrev pub IsBlock : Level → ℕ → Type 0
IsBlock l b = (l.first ≤ b) × (b < l.first + length l.counts.items)

pub record Opens {E : Type 0} (old new : Level) (block : ℕ) (result : Result (Unit {0}) E) : Type 0 where
  pub first : new.first ≡ old.first
  pub longer : length old.counts.items ≤ length new.counts.items
  pub same : (b : ℕ) → count_at new b ≡ count_at old b
  pub opened : OnOk result (old.first ≤ block → block ≤ old.first + length old.counts.items → IsBlock new block)

-- a block counts one more, if it does not count too many
pub record Raises (old new : Level) (block : ℕ) : Type 0 where
  pub first : new.first ≡ old.first
  pub long : length new.counts.items ≡ length old.counts.items
  pub counts : IsBlock old block → count_at old block < 4294967296 → (b : ℕ) → count_at new b ≡ cond (nat_eq b block) (count_at old b + 1) (count_at old b)

-- a block counts one less
pub record Lowers (old new : Level) (block : ℕ) : Type 0 where
  pub first : new.first ≡ old.first
  pub long : length new.counts.items ≡ length old.counts.items
  pub counts : IsBlock old block → (b : ℕ) → count_at new b ≡ cond (nat_eq b block) (count_at old b - 1) (count_at old b)

-- the first block is gone, if it is before the block
pub record Passes (old new : Level) (block : ℕ) : Type 0 where
  pub first : (new.first ≡ old.first) ⊎ ((new.first ≡ old.first + 1) × (old.first < block))
  pub end : new.first + length new.counts.items ≡ old.first + length old.counts.items
  pub counts : (b : ℕ) → new.first ≤ b → count_at new b ≡ count_at old b

-- an unfinished node that waits for no key
abbrev pub is_unblocked : GraphNode → Bool
is_unblocked n = not n.finished && nat_eq n.waits 0

abbrev pub is_unblocked_in : List GraphNode → ℕ → Bool
is_unblocked_in [] i = false
is_unblocked_in (x ∷ xs) zero = is_unblocked x
is_unblocked_in (x ∷ xs) (suc i) = is_unblocked_in xs i

-- the node with this number, if `before` nodes were dropped, is unfinished and waits for no key
abbrev pub is_unblocked_at : ℕ → List GraphNode → ℕ → Bool
is_unblocked_at before nodes n = cond (nat_lt n before) false (is_unblocked_in nodes (n - before))

-- the nodes that may go are listed, if there are nodes
abbrev pub IsListed : ℕ → List GraphNode → Ready → Type 0
IsListed before nodes r = 0 < length nodes → IsListing r before (before + length nodes) (is_unblocked_at before nodes)

-- the nodes that may go are listed, with room for the next one
abbrev pub IsListedWithRoom : ℕ → List GraphNode → Ready → Type 0
IsListedWithRoom before nodes r = IsListing r before (before + length nodes + 1) (is_unblocked_at before nodes)

-- one block is kept, with none
pub record Restarts (new : Level) (block : ℕ) : Type 0 where
  pub first : new.first ≡ block
  pub bare : new.counts.items ≡ 0 ∷ []
