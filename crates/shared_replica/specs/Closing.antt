-- What is known once a book is closed.
use Rattle.std.specs.Prelude.{◌≡◌, ℕ, ◌==◌, ◌<◌, List, [], ◌∷◌, map, length, slice_get, Some, if◌then◌else◌}
use Rattle.std.specs.List.{sum_by}
use Rattle.commit_ledger.specs.Tallies.{Tally, no_tally}
use Rattle.replica_core.specs.State.{Replica}
use Rattle.shared_replica.specs.declared.step.Step.{Step}
use Rattle.shared_replica.specs.declared.step.Receipt.{Receipt}
use Rattle.shared_replica.specs.declared.step.Sheet.{Sheet}
use Rattle.shared_replica.specs.History.{IsReplay, HasGrown, tally_in}
use Rattle.shared_replica.specs.Passes.{PassValue, SharedValue}

-- the receipt r is number k of pass i
abbrev pub At : List PassValue → ℕ → ℕ → Receipt → Type 0
At passes i k r = (p : PassValue) × (slice_get passes i ≡ Some p) × (slice_get p.receipts k ≡ Some r)

-- each receipt's step is at its place
abbrev pub AreInPlace : List PassValue → List Step → Type 0
AreInPlace passes steps = (i k : ℕ) (r : Receipt) → At passes i k r → slice_get steps r.place ≡ Some r.step

-- the places of a pass are ascending
abbrev pub AreAscending : List PassValue → Type 0
AreAscending passes = (i j k : ℕ) (r s : Receipt) → At passes i j r → At passes i k s → j < k → r.place < s.place

-- no place has two receipts
abbrev pub Apart : List PassValue → Type 0
Apart passes = (i j k l : ℕ) (r s : Receipt) → At passes i k r → At passes j l s → r.place ≡ s.place → (i ≡ j) × (k ≡ l)

-- each place has a receipt
abbrev pub Covers : List PassValue → List Step → Type 0
Covers passes steps = (place : ℕ) → place < length steps → (i : ℕ) × (k : ℕ) × (r : Receipt) × At passes i k r × (r.place ≡ place)

-- the receipts are the steps: each at its place, ascending in each pass, no two at one place, and one at each
pub record IsMerge (passes : List PassValue) (steps : List Step) : Type 0 where
  pub stands : AreInPlace passes steps
  pub rises : AreAscending passes
  pub apart : Apart passes
  pub covers : Covers passes steps

abbrev pub sheet : PassValue → Sheet
sheet p = record { seat = p.seat; receipts = p.receipts }

-- the receipts of a seat, none if it has no sheet
abbrev pub receipts_of : ℕ → List Sheet → List Receipt
receipts_of seat [] = []
receipts_of seat (s ∷ ss) = if s.seat == seat then s.receipts else receipts_of seat ss

-- what the shares of the passes have counted together
abbrev pub tally_of_passes : List PassValue → Tally
tally_of_passes passes = record { steps = sum_by (λ p. p.steps) passes; commits = sum_by (λ p. p.commits) passes }

-- a closed book: its opening, its steps, the replica that they leave, the receipts of each seat, and what the shares have counted
pub record ClosedValue : Type 0 where
  pub opening : Replica
  pub steps : List Step
  pub now : Replica
  pub sheets : List Sheet
  pub counts : Tally

-- a book of its own, before any step
abbrev pub closed_at_start : Replica → ClosedValue
closed_at_start opening = record { opening = opening; steps = []; now = opening; sheets = []; counts = no_tally }

-- what the closed book of a shared replica and its passes is
pub record IsClosed (shared : SharedValue) (passes : List PassValue) (b : ClosedValue) : Type 0 where
  pub opening : b.opening ≡ shared.opening
  pub legal : IsReplay b.opening b.steps b.now
  pub counts : b.counts ≡ tally_in b.steps
  pub shares : b.counts ≡ tally_of_passes passes
  pub grown : HasGrown b.opening b.steps b.now
  pub sheets : b.sheets ≡ map sheet passes
  pub receipts : IsMerge passes b.steps
