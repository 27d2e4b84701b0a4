-- The hidden columns of an image, behind all other columns.
use Rattle.std.specs.Prelude.{ℕ, List, ◌++◌, slice_get, Option, Some, None, option_map, option_and_then, ok_or, Result, Ok}
use Rattle.row_images.specs.Images.{values_text}
use Rattle.row_images.specs.declared.value.Value.{Value}
use Rattle.row_images.specs.declared.value.Value.TheVariants.{Null, Int, Bytes}
use Rattle.derived_columns.specs.declared.column.KeyComparison.{KeyComparison}
use Rattle.derived_columns.specs.declared.column.KeyPart.{KeyPart}
use Rattle.derived_columns.specs.declared.column.DerivedColumn.{DerivedColumn}
use Rattle.derived_columns.specs.declared.column.DerivedColumn.TheVariants.{Part, Row}
use Rattle.derived_columns.specs.Each.{with_it, each}
use Rattle.derived_columns.specs.Columns.{table_columns}
use Rattle.derived_columns.specs.Compared.{compared_bytes}

-- what is compared of a value's bytes, and null of null; a number has none
abbrev pub hidden_value : KeyComparison → Value → Option Value
hidden_value comparison Null = Some Null
hidden_value comparison (Int n) = None
hidden_value comparison (Bytes bytes) = option_map Bytes (compared_bytes comparison bytes)

-- that of the value in the part's column of an image, if it has the column
abbrev pub part_at : List Value → KeyPart → Option Value
part_at image part = option_and_then (hidden_value part.comparison) (slice_get image part.column)

-- the text of an image, as bytes
abbrev pub row_value : List Value → Value
row_value image = Bytes (values_text image)

-- what a hidden column holds of an image
abbrev pub hidden_at : List Value → DerivedColumn → Option Value
hidden_at image (Part part) = part_at image part
hidden_at image (Row table) = Some (row_value image)

-- that, or else the part of a key that has no hidden value
abbrev pub hidden_or_part : List Value → DerivedColumn → Result Value KeyPart
hidden_or_part image (Part part) = ok_or (part_at image part) part
hidden_or_part image (Row table) = Ok (row_value image)

-- those of columns in their order, or else the first part that has none
abbrev pub hidden_values : List DerivedColumn → List Value → Result (List Value) KeyPart
hidden_values columns image = each (hidden_or_part image) columns

-- an image with values behind, or else the part that has none
abbrev pub with_behind : List Value → Result (List Value) KeyPart → Result (List Value) KeyPart
with_behind image hidden = with_it (λ values. image ++ values) hidden

-- an image of a table with its hidden values behind, or else the first part that has none
abbrev pub derived_image : List DerivedColumn → List ℕ → List Value → Result (List Value) KeyPart
derived_image columns table image = with_behind image (hidden_values (table_columns columns table) image)
