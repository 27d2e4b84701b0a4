-- Columns that a log says are compared otherwise than the head says.
use Rattle.std.specs.Prelude.{◌==◌, ◌&&◌, not, Bool, true, false, is_some, List, [], ◌∷◌, Option, Some, None, if◌then◌else◌}
use Rattle.std.specs.List.{list_any}
use Rattle.std.specs.Option.{option_or}
use Rattle.std.specs.Str.{bytes_eq}
use Rattle.collations.specs.Names.{number_of}
use Rattle.collations.specs.declared.collation.Collation.{Collation}
use Rattle.derived_columns.specs.declared.column.KeyComparison.{KeyComparison}
use Rattle.derived_columns.specs.declared.column.KeyComparison.TheVariants.{Text, FirstCharacters, FirstBytes, FixedCharacters, FixedBytes, Float}
use Rattle.derived_columns.specs.declared.column.DerivedColumn.{DerivedColumn}
use Rattle.derived_columns.specs.declared.column.DerivedColumn.TheVariants.{Part, Row}
use Rattle.derived_columns.specs.declared.column.KeyPart.{KeyPart}
use Rattle.log_transactions.specs.declared.varied.Varied.{Varied}

abbrev pub is_collation : Collation → Option Collation → Bool
is_collation c None = false
is_collation c (Some other) = number_of other == number_of c

-- The log says that a column is compared otherwise than by its bytes, by this collation if it has one, and the head says something else: another
-- collation, bytes, or numbers where there is a collation.
abbrev pub is_against : KeyComparison → Option Collation → Bool
is_against (Text collation) said = not (is_collation collation said)
is_against (FirstCharacters collation count) said = not (is_collation collation said)
is_against (FirstBytes count) said = true
is_against (FixedCharacters collation count) said = not (is_collation collation said)
is_against (FixedBytes count) said = true
is_against Float said = is_some said

-- the log says so of the column of this part of a key
abbrev pub is_other : KeyPart → Varied → Bool
is_other part v = bytes_eq v.table part.table && ((v.column == part.column) && is_against part.comparison v.collation)

-- the part of a key of which a log says so
abbrev pub other_part : DerivedColumn → List Varied → Option KeyPart
other_part (Part part) varied = if list_any (is_other part) varied then Some part else None
other_part (Row table) varied = None

-- the first of them
abbrev pub first_other : List DerivedColumn → List Varied → Option KeyPart
first_other [] varied = None
first_other (c ∷ cs) varied = option_or (other_part c varied) (first_other cs varied)
