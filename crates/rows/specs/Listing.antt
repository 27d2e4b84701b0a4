-- Rows in order.
use Rattle.std.specs.Prelude.{Bool, ◌==◌, if◌then◌else◌, List, [], ◌∷◌, map, filter}
use Rattle.std.specs.Borrow.{Bor}
use Rattle.std.specs.Map.Iter.{deref_pair}
use Rattle.std.specs.FinMap.{entries, retain_keys}
use Rattle.row_images.specs.declared.value.Value.{Value}
use Rattle.rows.specs.declared.change.Key.{Key}
use Rattle.rows.specs.declared.change.TableRow.{TableRow}
use Rattle.rows.specs.Apply.{Rows}

abbrev pub is_primary : Key → Bool
is_primary key = key.index == 0

-- an entry as a row of its table
abbrev pub row_listed : Key × List Value → TableRow
row_listed entry = record { table = entry.0.table; row = entry.1 }

abbrev pub rows_of : List (Key × List Value) → List TableRow
rows_of [] = []
rows_of (e ∷ entries) = row_listed e ∷ rows_of entries

-- what is stored under the primary keys of these entries
abbrev pub primary_rows : List (Key × List Value) → List TableRow
primary_rows [] = []
primary_rows (e ∷ entries) =
    if e.0.index == 0 then record { table = e.0.table; row = e.1 } ∷ primary_rows entries else primary_rows entries

-- the rows in the order of their primary keys: by table name, and then by the values of the key
abbrev pub rows_listed : Rows → List TableRow
rows_listed rows = primary_rows (entries rows)

-- the same rows with their primary keys, in the same order
abbrev pub entries_listed : Rows → List (Key × List Value)
entries_listed rows = entries (retain_keys rows is_primary)

-- ---- before they are in order

-- the entries under primary keys
abbrev pub primary_entries : List (Key × List Value) → List (Key × List Value)
primary_entries entries = filter (λ e. is_primary e.0) entries

-- what references show
abbrev pub key_shown : Bor Key × Bor (List Value) → Key
key_shown r = r.0.now

abbrev pub all_shown : List (Bor Key × Bor (List Value)) → List (Key × List Value)
all_shown list = map deref_pair list
