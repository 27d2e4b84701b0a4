-- Ascending intervals of numbers.
use Rattle.std.specs.Prelude.{ℕ, ◌+◌, ◌-◌, ◌<◌, ◌≤◌, ◌⊎◌, min, max, nat_le, nat_lt, Bool, ◌&&◌, if◌then◌else◌, ⊤, List, [], ◌∷◌, ◌++◌, Option, Some, None, option_to_list}
use Rattle.std.specs.List.{AllByRecursion, list_any}
use Rattle.interval_pool.specs.declared.interval.Interval.{Interval}
use Rattle.interval_pool.specs.declared.interval.Joined.{Joined}
use Rattle.interval_pool.specs.declared.interval.Pieces.{Pieces}

-- it ends with a number missing before the other
abbrev pub IsBefore : Interval → Interval → Type 0
IsBefore s t = s.hi + 1 < t.lo

-- none is empty, and each ends with a number missing before the later ones
abbrev pub AreMerged : List Interval → Type 0
AreMerged [] = ⊤
AreMerged (s ∷ ss) = (s.lo ≤ s.hi) × AllByRecursion (IsBefore s) ss × AreMerged ss

-- whether a number is one of the interval's
abbrev pub covers : Interval → ℕ → Bool
covers s n = nat_le s.lo n && nat_le n s.hi

-- whether it is one of some interval's
abbrev pub has : List Interval → ℕ → Bool
has ss n = list_any (λ s. covers s n) ss

-- the least interval with all numbers of two
abbrev pub hull : Interval → Interval → Interval
hull s t = record { lo = min s.lo t.lo; hi = max s.hi t.hi }

-- an interval joined with the first of some, those that begin up to a number, beside so many others
abbrev pub meet : ℕ → Interval → ℕ → List Interval → Joined
meet limit s k [] = record { numbers = s; count = k }
meet limit s k (t ∷ ts) = if nat_le t.lo limit then meet limit (hull s t) (k + 1) ts else record { numbers = s; count = k }

-- what an interval has below the numbers of another, and above
abbrev pub part_below : Interval → Interval → Option Interval
part_below whole s = if nat_lt whole.lo s.lo then Some (record { lo = whole.lo; hi = s.lo - 1 }) else None

abbrev pub part_above : Interval → Interval → Option Interval
part_above whole s = if nat_lt s.hi whole.hi then Some (record { lo = s.hi + 1; hi = whole.hi }) else None

abbrev pub list_of_pieces : Pieces → List Interval
list_of_pieces pieces = option_to_list pieces.first ++ option_to_list pieces.second

-- no interval of these has a number of another, or one beside it
abbrev pub IsApart : List Interval → Interval → Type 0
IsApart ss s = AllByRecursion (λ t. IsBefore t s ⊎ IsBefore s t) ss

-- an interval of these goes on below and above all numbers of another
abbrev pub IsSplit : List Interval → Interval → Type 0
IsSplit [] s = ⊥
IsSplit (t ∷ ts) s = ((t.lo < s.lo) × (s.hi < t.hi)) ⊎ IsSplit ts s
