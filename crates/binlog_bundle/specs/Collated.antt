-- Lines of a head that say what hidden columns hold, and rows with their hidden values behind.
use Rattle.std.specs.Prelude.{ℕ, List, [], ◌∷◌, ◌++◌, drop, codes, nat_eq, nat_lt, ◌^◌, Option, Some, None, option_map, option_and_then, if◌then◌else◌}
use Rattle.std.specs.List.{starts_with, flat_map}
use Rattle.std.specs.Option.{unwrap_or}
use Rattle.std.specs.Result.{result_ok}
use Rattle.std.specs.Str.{bytes_eq}
use Rattle.row_images.specs.Images.{image_of, values_text}
use Rattle.row_images.specs.Words.{count_of, first_word, others}
use Rattle.row_images.specs.declared.value.Value.{Value}
use Rattle.binlog_bundle.specs.Names.{table_name}
use Rattle.derived_columns.specs.Images.{derived_image}
use Rattle.derived_columns.specs.declared.column.KeyComparison.{KeyComparison}
use Rattle.derived_columns.specs.declared.column.DerivedColumn.{DerivedColumn}
use Rattle.derived_columns.specs.declared.column.DerivedColumn.TheVariants.{Part, Row}
use Rattle.binlog_bundle.specs.Comparisons.{comparison_of}

-- ---- lines `collate <table> <column> <word>` and `collate <table> row`

-- the part of a key of the table of this name, if that is the name of a log's tables, and the column's number has 32 bits
abbrev pub part_of : List ℕ → Option ℕ → Option KeyComparison → Option DerivedColumn
part_of table (Some column) (Some comparison) =
    if nat_lt column (2 ^ 32) then option_map (λ name. Part (record { table = name; column = column; comparison = comparison })) (table_name table) else None
part_of table _ _ = None

-- the rows of the table of this name, if that is the name of a log's tables
abbrev pub row_of : List ℕ → List ℕ → Option DerivedColumn
row_of table word = if bytes_eq word (codes "row") then option_map Row (table_name table) else None

-- a table, and what follows it: a column and how it is compared, or `row` alone
abbrev pub column_with : List ℕ → List ℕ → Option (List ℕ) → Option DerivedColumn
column_with table word None = row_of table word
column_with table word (Some how) = part_of table (count_of word) (comparison_of how)

abbrev pub column_behind : List ℕ → List ℕ → Option DerivedColumn
column_behind table words = column_with table (first_word words) (others words)

-- what a hidden column holds, by a line `collate ..`
abbrev pub collated : List ℕ → Option DerivedColumn
collated line = option_and_then (λ words. option_and_then (column_behind (first_word words)) (others words)) (others line)

abbrev pub listed : Option DerivedColumn → List DerivedColumn
listed None = []
listed (Some c) = c ∷ []

-- those of some lines, in order
abbrev pub column_list : List ℕ → List DerivedColumn
column_list line = if starts_with nat_eq line (codes "collate ") then listed (collated line) else []

abbrev pub columns_of : List (List ℕ) → List DerivedColumn
columns_of lines = flat_map column_list lines

-- ---- lines `row <table> <values>`

-- what follows the word `row`
abbrev pub row_part : List ℕ → Option (List ℕ)
row_part line = if starts_with nat_eq line (codes "row ") then Some (drop 4 line) else None

abbrev pub image_line : List ℕ → List Value → List ℕ
image_line table image = codes "row " ++ (table ++ 32 ∷ values_text image)

-- the line of the row of this table with these words and its hidden values, if they are a row's and it has them
abbrev pub weighed_words : List DerivedColumn → List ℕ → List ℕ → Option (List ℕ)
weighed_words columns table words =
    option_map (image_line table) (option_and_then (λ image. result_ok (derived_image columns table image)) (image_of words))

abbrev pub weighed_row : List DerivedColumn → List ℕ → Option (List ℕ)
weighed_row columns part =
    option_and_then (λ words. option_and_then (λ table. weighed_words columns table words) (table_name (first_word part))) (others part)

-- A row has its hidden values behind, if the head has such lines. All else is as it stands; also a row that has none, which is too short then.
abbrev pub weighed_line : List DerivedColumn → List ℕ → List ℕ
weighed_line [] line = line
weighed_line (c ∷ cs) line = unwrap_or (option_and_then (weighed_row (c ∷ cs)) (row_part line)) line
