-- Why journals are not audited.
use Rattle.std.specs.Prelude.{◌≡◌, ℕ, ◌+◌, ◌<◌, List, [], ◌∷◌, length, Some, slice_get}
use Rattle.std.specs.FinSet as set
use Rattle.gtid_set.specs.declared.fault.SetFault.{SetFault}
use Rattle.gtid_set.specs.Sets.{Gtids}
use Rattle.gtid_set.specs.Full.{interval_count, most_intervals, HasManySources, HasManyIntervals, IsMemoryOr}
use Rattle.journal.specs.Journals.{JournalValue}

-- what some journal's previous set has outside the opening set has too many intervals
pub record LacksMany (opened : Gtids) (journals : List JournalValue) : Type 0 where
  pub place : ℕ
  pub journal : JournalValue
  pub at : slice_get journals place ≡ Some journal
  pub many : HasManyIntervals (set.difference journal.previous opened)

-- out of memory, or the set that the verdict would name has too many intervals
abbrev pub IsAuditFault : Gtids → List JournalValue → SetFault → Type 0
IsAuditFault opened journals f = IsMemoryOr ⊥ (LacksMany opened journals) f

-- the intervals of the opening set and of the previous sets of all journals, and their entries
abbrev pub intervals_of : Gtids → List JournalValue → ℕ
intervals_of opened [] = interval_count opened
intervals_of opened (j ∷ js) = (interval_count j.previous + length j.entries) + intervals_of opened js

-- out of memory, or these GTIDs have too many sources, or this many intervals are too many
abbrev pub IsFaultWithin : Gtids → ℕ → SetFault → Type 0
IsFaultWithin gtids intervals f = IsMemoryOr (HasManySources gtids) (most_intervals < intervals) f
