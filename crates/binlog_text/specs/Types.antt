-- The types of columns, as mysqlbinlog prints them after `--print-table-metadata`.
use Rattle.std.specs.Prelude.{ℕ, ◌&&◌, ◌||◌, Bool, true, List, [], ◌∷◌, Option, Some, None, codes, nat_eq, nat_le, if◌then◌else◌}
use Rattle.std.specs.List.{ends_with}
use Rattle.std.specs.Option.{option_or}
use Rattle.std.specs.Str.{bytes_eq}
use Rattle.gtid_text.specs.Scan.{run, skip_while}
use Rattle.collations.specs.Finding.{collation_named}
use Rattle.collations.specs.declared.collation.Collation.{Collation}
use Rattle.binlog_text.specs.Tokens.{◌>>=◌, after_prefix}
use Rattle.binlog_text.specs.Lines.{begins}
use Rattle.binlog_text.specs.declared.types.IntegerType.{IntegerType}
use Rattle.binlog_text.specs.declared.types.IntegerType.TheVariants as integers
use Rattle.binlog_text.specs.declared.types.ColumnType.{ColumnType}
use Rattle.binlog_text.specs.declared.types.ColumnType.TheVariants as types

abbrev pub is_upper : ℕ → Bool
is_upper b = nat_le 65 b && nat_le b 90

abbrev pub integer_named : List ℕ → Option IntegerType
integer_named word =
    if bytes_eq word (codes "TINYINT") then Some integers.TinyInt
    else if bytes_eq word (codes "SMALLINT") then Some integers.SmallInt
    else if bytes_eq word (codes "MEDIUMINT") then Some integers.MediumInt
    else if bytes_eq word (codes "INT") then Some integers.Int
    else if bytes_eq word (codes "BIGINT") then Some integers.BigInt
    else None

-- text whose collation may pad it or not
abbrev pub is_varied_text : List ℕ → Bool
is_varied_text word =
    bytes_eq word (codes "VARCHAR")
    || (bytes_eq word (codes "TINYTEXT")
    || (bytes_eq word (codes "TEXT")
    || (bytes_eq word (codes "MEDIUMTEXT")
    || bytes_eq word (codes "LONGTEXT"))))

abbrev pub is_binary : List ℕ → Bool
is_binary word =
    bytes_eq word (codes "BINARY")
    || (bytes_eq word (codes "VARBINARY")
    || (bytes_eq word (codes "TINYBLOB")
    || (bytes_eq word (codes "BLOB")
    || (bytes_eq word (codes "MEDIUMBLOB")
    || bytes_eq word (codes "LONGBLOB")))))

abbrev pub is_time : List ℕ → Bool
is_time word = bytes_eq word (codes "DATE") || (bytes_eq word (codes "TIME") || bytes_eq word (codes "DATETIME"))

abbrev pub is_quoted : List ℕ → Bool
is_quoted word = bytes_eq word (codes "CHAR") || (is_varied_text word || (is_binary word || is_time word))

-- the type that a word names, and the text after the word
abbrev pub other_named : List ℕ → List ℕ → Option ColumnType
other_named word rest =
    if is_quoted word then Some types.Quoted
    else if bytes_eq word (codes "DECIMAL") then Some types.Decimal
    else if bytes_eq word (codes "TIMESTAMP") then (if begins (codes "(") rest then Some types.Seconds else Some types.Number)
    else if bytes_eq word (codes "YEAR") || bytes_eq word (codes "ENUM") then Some types.Number
    else if bytes_eq word (codes "BIT") || bytes_eq word (codes "SET") then Some types.Bits
    else None

abbrev pub integer_or_other : Option IntegerType → List ℕ → List ℕ → Option ColumnType
integer_or_other (Some t) word rest = if begins (codes " UNSIGNED") rest then Some (types.Unsigned t) else Some (types.Signed t)
integer_or_other None word rest = other_named word rest

-- The type that a text names by its first word. FLOAT, DOUBLE, JSON, GEOMETRY and VECTOR name none: what is printed of their values does not determine them.
abbrev pub parse_type : List ℕ → Option ColumnType
parse_type text = integer_or_other (integer_named (run is_upper text)) (run is_upper text) (skip_while is_upper text)

-- Two values are equal for the server if and only if their bytes are: of text this holds under a binary collation that pads no text, and of
-- CHAR, which is kept without blanks at its end, under each binary collation.
abbrev pub compares_bytes : List ℕ → Bool
compares_bytes text =
    if is_varied_text (run is_upper text) then ends_with nat_eq text (codes " COLLATE utf8mb4_0900_bin")
    else if bytes_eq (run is_upper text) (codes "CHAR") then ends_with nat_eq text (codes "_bin")
    else true

-- what is behind COLLATE, the name of a collation
abbrev pub collation_name : List ℕ → Option (List ℕ)
collation_name [] = None
collation_name (b ∷ bs) = option_or (after_prefix (codes " COLLATE ") (b ∷ bs)) (collation_name bs)

-- the collation that the text of a type names, where it is one whose weights are known
abbrev pub collation_in : List ℕ → Option Collation
collation_in text = collation_name text >>= collation_named
