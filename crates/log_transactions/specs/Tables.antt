-- The names of tables, and those that a statement maps.
use Rattle.std.specs.Prelude.{ℕ, ◌+◌, ◌/◌, ◌%◌, nat_lt, List, [], ◌∷◌, ◌++◌, Option, Some, None, if◌then◌else◌}
use Rattle.std.specs.List.{flat_map}
use Rattle.std.specs.Str.{bytes_eq}
use Rattle.rows.specs.Names.{is_plain, is_name}
use Rattle.log_transactions.specs.declared.mapped.StatementTable.{StatementTable}

-- ---- names

-- the digit of a number below 16: 0 to 9, then a to f
abbrev pub hex_digit : ℕ → ℕ
hex_digit n = if nat_lt n 10 then 48 + n else 87 + n

-- a byte that is not plain in a name is % (37) with its two digits
abbrev pub escaped_byte : ℕ → List ℕ
escaped_byte b = if is_plain b then b ∷ [] else 37 ∷ hex_digit (b / 16) ∷ hex_digit (b % 16) ∷ []

abbrev pub escaped : List ℕ → List ℕ
escaped part = flat_map escaped_byte part

-- a table's database and its own name, with a dot (46) between them
abbrev pub joined_name : List ℕ → List ℕ → List ℕ
joined_name database table = escaped database ++ 46 ∷ escaped table

-- the name of a table of a database, if it is no longer than a name may be
abbrev pub table_name : List ℕ → List ℕ → Option (List ℕ)
table_name database table = if is_name (joined_name database table) then Some (joined_name database table) else None

-- ---- tables

-- the first table of this name
abbrev pub find_table : List ℕ → List StatementTable → Option StatementTable
find_table name [] = None
find_table name (t ∷ ts) = if bytes_eq t.name name then Some t else find_table name ts
