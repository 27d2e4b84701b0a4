-- Keys whose values the server compares otherwise than their bytes.
use Rattle.std.specs.Prelude.{ℕ, ◌+◌, is_some, List, [], ◌∷◌, Option, Some, None, if◌then◌else◌}
use Rattle.rows.specs.declared.schema.Table.{Table}
use Rattle.log_transactions.specs.Varied.{has_varied}
use Rattle.log_transactions.specs.declared.varied.Varied.{Varied}

-- the first of the columns of this table that is among them
abbrev pub varied_column : List ℕ → List ℕ → List Varied → Option ℕ
varied_column table [] vs = None
varied_column table (c ∷ cs) vs = if has_varied table c vs then Some c else varied_column table cs vs

-- the first of these
abbrev pub or_column : Option ℕ → Option ℕ → Option ℕ
or_column None second = second
or_column (Some column) second = Some column

abbrev pub varied_in_lists : List ℕ → List (List ℕ) → List Varied → Option ℕ
varied_in_lists table [] vs = None
varied_in_lists table (cs ∷ css) vs = or_column (varied_column table cs vs) (varied_in_lists table css vs)

-- the first column of a key of the table that is: of its primary key, and then of its unique keys
abbrev pub key_column : Table → List Varied → Option ℕ
key_column t vs = or_column (varied_column t.name t.primary vs) (varied_in_lists t.name t.uniques vs)

abbrev pub key_of : List ℕ → Option ℕ → Option (List ℕ × ℕ) → Option (List ℕ × ℕ)
key_of table None next = next
key_of table (Some column) next = Some (table, column)

-- the first table with such a column, by its name, and the column, counted from 0
abbrev pub varied_key : List Table → List Varied → Option (List ℕ × ℕ)
varied_key [] vs = None
varied_key (t ∷ ts) vs = key_of t.name (key_column t vs) (varied_key ts vs)

-- the places of all tables with such a column, from this place on
abbrev pub varied_places : ℕ → List Table → List Varied → List ℕ
varied_places place [] vs = []
varied_places place (t ∷ ts) vs = if is_some (key_column t vs) then place ∷ varied_places (place + 1) ts vs else varied_places (place + 1) ts vs
