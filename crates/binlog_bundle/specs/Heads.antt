-- The head of a bundle of logs: what comes before its first line of a channel. Lines `unsupported ..` and `collate ..` may be among those of the
-- bundle, and its rows are without hidden columns that the latter describe.
use Rattle.std.specs.Prelude.{◌≡◌, ℕ, ◌+◌, ◌-◌, ◌^◌, min, nat_le, Bool, true, false, not, ◌&&◌, ◌||◌, List, [], ◌∷◌, ◌++◌, drop, codes, nat_eq, Option, Some, None, if◌then◌else◌}
use Rattle.std.specs.List.{starts_with, list_any, flat_map, AllByRecursion}
use Rattle.txn_journal.specs.Words.{IsOneLine}
use Rattle.derived_columns.specs.declared.column.DerivedColumn.{DerivedColumn}
use Rattle.derived_columns.specs.declared.column.DerivedColumn.TheVariants.{Part, Row}
use Rattle.binlog_bundle.specs.Lines.{with_line_feed}
use Rattle.binlog_bundle.specs.Collated.{collated, columns_of, weighed_line}
use Rattle.binlog_bundle.specs.declared.grants.Grants.{Grants}
use Rattle.binlog_bundle.specs.declared.head.HeadFault.{HeadFault}
use Rattle.binlog_bundle.specs.declared.head.HeadFault.TheVariants as heads

-- ---- lines

-- a line that names what a bundle can't hold; it is none of the bundle's
abbrev pub is_unsupported : List ℕ → Bool
is_unsupported line = starts_with nat_eq line (codes "unsupported ")

-- what it names is a foreign key
abbrev pub is_foreign_key : List ℕ → Bool
is_foreign_key line = starts_with nat_eq line (codes "unsupported foreign-key ")

-- a line that says what a hidden column of a table holds; it is none of the bundle's
abbrev pub is_collate : List ℕ → Bool
is_collate line = starts_with nat_eq line (codes "collate ")

-- it is no line of the bundle
abbrev pub is_passed : List ℕ → Bool
is_passed line = is_unsupported line || is_collate line

-- what a line `collate ..` says is taken: that a hidden column holds whole rows only where the opening rows aren't known
abbrev pub is_taken : Grants → Option DerivedColumn → Bool
is_taken grants None = false
is_taken grants (Some (Part part)) = true
is_taken grants (Some (Row table)) = grants.no_rows

-- what a line `unsupported ..` names is a foreign key, and that is granted; what a line `collate ..` says is taken
abbrev pub is_granted : Grants → List ℕ → Bool
is_granted grants line =
    if is_unsupported line then grants.without_foreign_keys && is_foreign_key line
    else not (is_collate line) || is_taken grants (collated line)

abbrev pub IsGranted : Grants → List ℕ → Type 0
IsGranted grants line = IsOneLine line × (is_granted grants line ≡ true)

-- the line, if it is one of the bundle; a row has its hidden values behind
abbrev pub plain_text : List DerivedColumn → List ℕ → List ℕ
plain_text columns line = if is_passed line then [] else with_line_feed (weighed_line columns line)

-- what a line says is unsupported is a foreign key, and that is granted
abbrev pub is_granted_key : Grants → List ℕ → Bool
is_granted_key grants what = grants.without_foreign_keys && starts_with nat_eq what (codes "foreign-key ")

-- what a line that isn't granted says is unsupported: the words behind `unsupported`, or the line `collate ..` itself
abbrev pub unsupported_in : List ℕ → List ℕ
unsupported_in line = if is_unsupported line then drop 12 line else line

-- ---- heads

-- Each line of the head is the bundle's or granted. The plain head is the head without the lines that aren't the bundle's, and with hidden values
-- in its rows, those of the columns of the lines `collate ..`; whether there are lines `unsupported ..` is kept.
pub record IsPlainHead (grants : Grants) (columns : List DerivedColumn) (head plain : List ℕ) (passed_over : Bool) : Type 0 where
  pub lines : List (List ℕ)
  pub rest : List ℕ
  pub parts : head ≡ flat_map with_line_feed lines ++ rest
  pub granted : AllByRecursion (IsGranted grants) lines
  pub part : IsOneLine rest
  pub columns_are : columns ≡ columns_of lines
  pub plain_is : plain ≡ flat_map (plain_text columns) lines ++ rest
  pub passed : passed_over ≡ list_any is_unsupported lines

-- the first line of the head that is neither the bundle's nor granted says that this is unsupported
pub record IsUnsupported (grants : Grants) (what head : List ℕ) : Type 0 where
  pub before : List (List ℕ)
  pub line : List ℕ
  pub rest : List ℕ
  pub parts : head ≡ flat_map with_line_feed before ++ (with_line_feed line ++ rest)
  pub granted : AllByRecursion (IsGranted grants) before
  pub whole : IsOneLine line
  pub refused : is_granted grants line ≡ false
  pub says : what ≡ unsupported_in line

-- why a line is not taken
abbrev pub IsNotGranted : Grants → List ℕ → HeadFault → Type 0
IsNotGranted grants line heads.Memory = Unit {0}
IsNotGranted grants line (heads.Unsupported what) = (is_granted grants line ≡ false) × (what.items ≡ unsupported_in line)

-- why what a line `unsupported ..` names is not passed over
abbrev pub IsNoGrantedKey : Grants → List ℕ → HeadFault → Type 0
IsNoGrantedKey grants what heads.Memory = Unit {0}
IsNoGrantedKey grants what (heads.Unsupported other) = (is_granted_key grants what ≡ false) × (other.items ≡ what)

-- why a line `collate ..` is not taken
abbrev pub IsNoCollate : Grants → List ℕ → HeadFault → Type 0
IsNoCollate grants line heads.Memory = Unit {0}
IsNoCollate grants line (heads.Unsupported what) = (is_taken grants (collated line) ≡ false) × (what.items ≡ line)

-- why a head has no plain one
abbrev pub IsNoPlainHead : Grants → List ℕ → HeadFault → Type 0
IsNoPlainHead grants head heads.Memory = Unit {0}
IsNoPlainHead grants head (heads.Unsupported what) = IsUnsupported grants what.items head

-- ---- numbers of lines

-- how many lines that aren't the bundle's come before the nth of the others
abbrev pub skipped : List (List ℕ) → ℕ → ℕ
skipped [] n = 0
skipped (line ∷ lines) n = if is_passed line then skipped lines n + 1 else (if nat_le n 1 then 0 else skipped lines (n - 1))

-- the number, among all lines, of the line that is the nth of the others
abbrev pub place_of : List (List ℕ) → ℕ → ℕ
place_of lines n = min (n + skipped lines n) (2 ^ 64 - 1)
