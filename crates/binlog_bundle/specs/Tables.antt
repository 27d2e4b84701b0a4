-- Tables that a log maps.
use Rattle.std.specs.Prelude.{◌≡◌, ℕ, not, Bool, true, false, List, ◌∷◌, ◌++◌, Option, Some, None}
use Rattle.std.specs.List.{list_any, flat_map, AllByRecursion}
use Rattle.std.specs.Str.{bytes_eq}
use Rattle.rows.specs.declared.schema.Table.{Table}
use Rattle.txn_journal.specs.Stream.{next_number}
use Rattle.txn_journal.specs.Words.{IsOneLine}
use Rattle.log_transactions.specs.Tables.{table_name}
use Rattle.binlog_text.specs.Lines.{Content, OfTable}
use Rattle.binlog_text.specs.Reading.{line_of}
use Rattle.binlog_bundle.specs.Lines.{with_line_feed, lines_in}

abbrev pub has_table : List Table → List ℕ → Bool
has_table tables name = list_any (λ t. bytes_eq t.name name) tables

-- one of these has this name, if there is one
abbrev pub has_named : List Table → Option (List ℕ) → Bool
has_named tables None = false
has_named tables (Some name) = has_table tables name

-- the content of a line maps a table that is none of these
abbrev pub maps_other : List Table → Option Content → Bool
maps_other tables (Some (OfTable database table)) = not (has_named tables (table_name database table))
maps_other tables _ = false

-- a whole line that maps none but these
abbrev pub IsPlain : List Table → List ℕ → Type 0
IsPlain tables line = IsOneLine line × (maps_other tables (line_of line) ≡ false)

-- The first line of the log that maps a table which is none of these has this number.
pub record HasOther (tables : List Table) (n : ℕ) (log : List ℕ) : Type 0 where
  pub before : List (List ℕ)
  pub line : List ℕ
  pub rest : List ℕ
  pub parts : log ≡ flat_map with_line_feed before ++ (line ++ 10 ∷ rest)
  pub plain : AllByRecursion (IsPlain tables) before
  pub whole : IsOneLine line
  pub maps : maps_other tables (line_of line) ≡ true
  pub number : n ≡ next_number (lines_in (flat_map with_line_feed before))

-- no line of the log does
pub record HasNoOther (tables : List Table) (log : List ℕ) : Type 0 where
  pub lines : List (List ℕ)
  pub rest : List ℕ
  pub parts : log ≡ flat_map with_line_feed lines ++ rest
  pub plain : AllByRecursion (IsPlain tables) lines
  pub part : IsOneLine rest
