-- Columns whose values the server compares otherwise than their bytes.
use Rattle.std.specs.Prelude.{ℕ, ◌==◌, ◌&&◌, ◌||◌, not, Bool, false, List, [], ◌∷◌, ◌++◌, Option, Some, if◌then◌else◌}
use Rattle.std.specs.List.{list_any}
use Rattle.std.specs.Option.{option_eq}
use Rattle.std.specs.Str.{bytes_eq}
use Rattle.collations.specs.declared.collation.Collation.{Collation}
use Rattle.collations.specs.contracts.collation.CollationPartialEq.TheImpl as it
use Rattle.log_transactions.specs.declared.varied.Varied.{Varied}

-- the column of this table, counted from 0
abbrev pub is_column : List ℕ → ℕ → Varied → Bool
is_column table column v = bytes_eq v.table table && (v.column == column)

-- it is among them
abbrev pub has_varied : List ℕ → ℕ → List Varied → Bool
has_varied table column [] = false
has_varied table column (v ∷ vs) = is_column table column v || has_varied table column vs

-- the collations by which they say that it is compared, in order
abbrev pub collations_of : List ℕ → ℕ → List Varied → List (Option Collation)
collations_of table column [] = []
collations_of table column (v ∷ vs) = if is_column table column v then v.collation ∷ collations_of table column vs else collations_of table column vs

-- the two are one collation, or both are none
abbrev pub is_same : Option Collation → Option Collation → Bool
is_same said other = option_eq it.eq-value.it said other

-- they say that it is compared by this collation
abbrev pub is_said : List ℕ → ℕ → Option Collation → List Varied → Bool
is_said table column collation vs = list_any (λ said. is_same said collation) (collations_of table column vs)

-- they say that it is compared by another one, or by none whose weights are known
abbrev pub has_other : List ℕ → ℕ → Collation → List Varied → Bool
has_other table column collation vs = list_any (λ said. not (is_same said (Some collation))) (collations_of table column vs)

-- with a column behind them, unless they say the same of it
abbrev pub with_varied : List Varied → List ℕ → ℕ → Option Collation → List Varied
with_varied vs table column collation =
    if is_said table column collation vs then vs
    else vs ++ record { table = table; column = column; collation = collation } ∷ []
