-- The columns that a TABLE_MAP describes. None: its body is not in that form.
use Rattle.std.specs.Prelude.{ℕ, ◌+◌, ◌*◌, ◌==◌, ◌&&◌, ◌||◌, nat_lt, nat_le, Bool, List, [], ◌∷◌, length, Option, Some, None, option_map, if◌then◌else◌}
use Rattle.binlog_rows.specs.Numbers.{and_then, split, behind, number_of, packed, bits_width}
use Rattle.binlog_rows.specs.declared.columns.MappedColumn.{MappedColumn}
use Rattle.binlog_rows.specs.declared.columns.MappedColumn.TheVariants as columns
use Rattle.binlog_rows.specs.declared.columns.Signedness.TheVariants as signs
use Rattle.binlog_rows.specs.Signs.{signedness_of, signed_from}
use Rattle.binlog_rows.specs.declared.columns.ColumnBytes.{ColumnBytes}

-- a column whose type has no metadata: TINYINT, SMALLINT, INT, BIGINT, MEDIUMINT, DATE and YEAR
unfoldable pub plain_column : ℕ → Option MappedColumn
plain_column kind =
    if kind == 1 then Some (columns.Integer 1 signs.Unknown)
    else if kind == 2 then Some (columns.Integer 2 signs.Unknown)
    else if kind == 3 then Some (columns.Integer 4 signs.Unknown)
    else if kind == 8 then Some (columns.Integer 8 signs.Unknown)
    else if kind == 9 then Some (columns.Integer 3 signs.Unknown)
    else if kind == 10 then Some columns.Date
    else if kind == 13 then Some columns.Year
    else None

abbrev pub some_if : Bool → MappedColumn → Option MappedColumn
some_if test column = if test then Some column else None

-- a column whose type has a byte of metadata: of FLOAT and DOUBLE the width; of TIMESTAMP, DATETIME and TIME how many digits a second's
-- fraction has; of VECTOR, JSON, TEXT and BLOB, and GEOMETRY how many bytes a value's length takes
unfoldable pub column_by_byte : ℕ → ℕ → Option MappedColumn
column_by_byte kind byte =
    if kind == 4 then some_if (byte == 4) columns.Float
    else if kind == 5 then some_if (byte == 8) columns.Double
    else if kind == 17 then some_if (nat_le byte 6) (columns.Timestamp byte)
    else if kind == 18 then some_if (nat_le byte 6) (columns.Datetime byte)
    else if kind == 19 then some_if (nat_le byte 6) (columns.Time byte)
    else if kind == 242 then some_if (nat_le 1 byte && nat_le byte 4) (columns.Vector byte)
    else if kind == 245 then some_if (nat_le 1 byte && nat_le byte 4) (columns.Json byte)
    else if kind == 252 then some_if (nat_le 1 byte && nat_le byte 4) (columns.Blob byte)
    else if kind == 255 then some_if (nat_le 1 byte && nat_le byte 4) (columns.Geometry byte)
    else None

-- type 254 with its two bytes. CHAR and BINARY: the most bytes that a value has, up to 1,023, of which two bits are in the first byte the
-- other way round. ENUM and SET: the width.
unfoldable pub string_column : ℕ → ℕ → Option MappedColumn
string_column a b =
    if a == 254 then Some (columns.Char b)
    else if a == 238 then Some (columns.Char (b + 256))
    else if a == 222 then Some (columns.Char (b + 512))
    else if a == 206 then Some (columns.Char (b + 768))
    else if a == 247 then some_if (nat_le 1 b && nat_le b 2) (columns.Enum b)
    else if a == 248 then some_if (nat_le 1 b && (nat_le b 4 || (b == 8))) (columns.Set b)
    else None

-- BIT: how many bits there are beyond whole bytes, and whole bytes
abbrev pub bit_column : ℕ → ℕ → Option MappedColumn
bit_column bits bytes =
    some_if (nat_lt bits 8 && (nat_le 1 (bits + bytes * 8) && nat_le (bits + bytes * 8) 64)) (columns.Bit (bits + bytes * 8))

-- DECIMAL: how many digits there are, and how many of these behind the point
abbrev pub decimal_column : ℕ → ℕ → Option MappedColumn
decimal_column precision scale =
    some_if (nat_le 1 precision && (nat_le precision 65 && (nat_le scale 30 && nat_le scale precision))) (columns.Decimal precision scale)

-- a column whose type has two bytes of metadata: VARCHAR and VARBINARY with the most bytes that a value has, lowest first, BIT, DECIMAL,
-- and type 254
unfoldable pub column_by_bytes : ℕ → ℕ → ℕ → Option MappedColumn
column_by_bytes kind a b =
    if kind == 15 then Some (columns.Varchar (a + b * 256))
    else if kind == 16 then bit_column a b
    else if kind == 246 then decimal_column a b
    else if kind == 254 then string_column a b
    else None

abbrev pub has_byte : ℕ → Bool
has_byte kind =
    (nat_le 4 kind && nat_le kind 5)
    || ((nat_le 17 kind && nat_le kind 19) || ((kind == 242) || ((kind == 245) || ((kind == 252) || (kind == 255)))))

abbrev pub has_bytes : ℕ → Bool
has_bytes kind = (kind == 15) || ((kind == 16) || ((kind == 246) || (kind == 254)))

-- how many bytes of metadata a type has
unfoldable pub metadata_width : ℕ → ℕ
metadata_width kind = if has_bytes kind then 2 else if has_byte kind then 1 else 0

-- the column of a type with its metadata
unfoldable pub column_by : ℕ → List ℕ → Option MappedColumn
column_by kind [] = plain_column kind
column_by kind (a ∷ []) = column_by_byte kind a
column_by kind (a ∷ b ∷ more) = column_by_bytes kind a b

-- the column of a type whose metadata is at the front, and what is behind that
unfoldable pub column_at : ℕ → List ℕ → Option (MappedColumn × List ℕ)
column_at kind metadata =
    and_then (split (metadata_width kind) metadata) (λ p. and_then (column_by kind p.0) (λ column. Some (column, p.1)))

-- the columns of these types, whose metadata this is, all of it
unfoldable pub columns_from : List ℕ → List ℕ → Option (List MappedColumn)
columns_from [] [] = Some []
columns_from [] (byte ∷ more) = None
columns_from (kind ∷ kinds) metadata =
    and_then (column_at kind metadata) (λ p. option_map (λ columns. p.0 ∷ columns) (columns_from kinds p.1))

-- the types of columns, a byte each, their metadata, and the optional metadata
pub record KindBytes : Type 0 where
  pub kinds : List ℕ
  pub metadata : List ℕ
  pub options : List ℕ

-- from the metadata's length on, which stands packed before it: behind it is a bit for each column, whether it may be NULL, and then the
-- optional metadata
unfoldable pub metadata_at : List ℕ → List ℕ → Option KindBytes
metadata_at kinds bytes =
    and_then (packed bytes) (λ len. and_then (split len.0 len.1) (λ p.
    and_then (behind (bits_width (length kinds)) p.1) (λ options. Some (record { kinds = kinds; metadata = p.0; options = options }))))

-- from the number of columns on, which stands packed before their types
unfoldable pub kinds_at : List ℕ → Option KindBytes
kinds_at bytes = and_then (packed bytes) (λ count. and_then (split count.0 count.1) (λ p. metadata_at p.0 p.1))

-- what is behind a name: its length of one byte, the name, and a 0
unfoldable pub behind_name : List ℕ → Option (List ℕ)
behind_name bytes =
    and_then (number_of 1 bytes) (λ len. and_then (behind len.0 len.1) (λ rest.
    and_then (number_of 1 rest) (λ last. if last.0 == 0 then Some last.1 else None)))

-- TABLE_MAP: an id of 6 bytes, 2 bytes of flags, the names of the database and the table, and what describes the columns
unfoldable pub described : List ℕ → Option KindBytes
described body = and_then (behind 8 body) (λ a. and_then (behind_name a) (λ b. and_then (behind_name b) (λ c. kinds_at c)))

unfoldable pub columns_of : List ℕ → Option (List MappedColumn)
columns_of body =
    and_then (described body) (λ b. option_map (λ columns. signed_from (signedness_of b.options) 0 columns) (columns_from b.kinds b.metadata))

-- what the code gives
abbrev pub bytes_view : ColumnBytes → KindBytes
bytes_view b = record { kinds = b.kinds.now; metadata = b.metadata.now; options = b.options.now }
