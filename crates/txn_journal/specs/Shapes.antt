-- The content of a table's line, its numbers as they are written.
use Rattle.std.specs.Prelude.{◌≡◌, ℕ, zero, suc, Bool, true, false, ◌&&◌, nat_le, nat_lt, List, [], ◌∷◌, ◌++◌, length, map, Option, Some, None, Result, Ok, Err, codes, if◌then◌else◌, decimal}
use Rattle.std.specs.List.{list_all}
use Rattle.std.specs.Str.{bytes_eq}
use Rattle.rows.specs.Limits.{most_tables, most_columns, most_uniques}
use Rattle.txn_journal.specs.Versions.{is_named}
use Rattle.rows.specs.declared.limits.Limits.{Limits}
use Rattle.rows.specs.declared.limits.Limits.TheVariants.{Narrow, Wide}
use Rattle.rows.specs.declared.schema.Table.{Table}
use Rattle.rows.specs.declared.schema.TableFault.{TableFault}
use Rattle.rows.specs.declared.schema.TableFault.TheVariants as table_faults
use Rattle.rows.specs.Tables.{table_fault}
use Rattle.row_images.specs.Words.{is_count, count_of}
use Rattle.txn_journal.specs.Words.{name_of}
use Rattle.txn_journal.specs.Lines.{◌>>=◌, some_or_body}
use Rattle.row_images.specs.Parts.{parts_of, joined_by}
use Rattle.txn_journal.specs.Splits.{is_columns_text, columns_text}
use Rattle.txn_journal.specs.declared.fault.Cause.{Cause}
use Rattle.txn_journal.specs.declared.fault.Cause.TheVariants as causes

-- a name, how many columns, the columns of the primary key and of each unique key, and how many of the last columns are hidden, if any are
pub record Shape : Type 0 where
  pub name : List ℕ
  pub columns : List ℕ
  pub primary : List ℕ
  pub uniques : List (List ℕ)
  pub hidden : Option (List ℕ)

-- ---- as text

abbrev pub unique_words : List (List ℕ) → List (List ℕ)
unique_words [] = []
unique_words (u ∷ us) = (codes "uk") ∷ u ∷ unique_words us

abbrev pub hidden_words : Option (List ℕ) → List (List ℕ)
hidden_words None = []
hidden_words (Some count) = (codes "hidden") ∷ count ∷ []

abbrev pub shape_words : Shape → List (List ℕ)
shape_words s = s.name ∷ s.columns ∷ (codes "pk") ∷ s.primary ∷ (unique_words s.uniques ++ hidden_words s.hidden)

abbrev pub shape_text : Shape → List ℕ
shape_text s = joined_by 32 (shape_words s)

-- texts with narrow limits hide no columns
abbrev pub hides : Limits → List ℕ → Bool
hides Narrow count = false
hides Wide count = is_count count

abbrev pub may_hide : Limits → Option (List ℕ) → Bool
may_hide limits None = true
may_hide limits (Some count) = hides limits count

pub record FitsShape (limits : Limits) (s : Shape) : Type 0 where
  pub name : is_named limits s.name ≡ true
  pub columns : is_count s.columns ≡ true
  pub primary : is_columns_text s.primary ≡ true
  pub uniques : list_all is_columns_text s.uniques ≡ true
  pub hidden : may_hide limits s.hidden ≡ true

-- ---- as it is read

-- what follows the primary key
pub record Behind : Type 0 where
  pub uniques : List (List ℕ)
  pub hidden : Option (List ℕ)

-- the last two words say how many columns are hidden
abbrev pub is_last_pair : Limits → List ℕ → List ℕ → List (List ℕ) → Bool
is_last_pair limits key count [] = bytes_eq key (codes "hidden") && hides limits count
is_last_pair limits key count words = false

abbrev pub hidden_word : Bool → List ℕ → Result (Option (List ℕ)) Cause
hidden_word true count = Ok (Some count)
hidden_word false count = Err causes.Body

abbrev pub hidden_behind : Bool → List (List ℕ) → List ℕ → Result Behind Cause
hidden_behind is before count = hidden_word is count >>= λ hidden. Ok (record { uniques = before; hidden = hidden })

unfoldable pub behind_from : Limits → List (List ℕ) → List (List ℕ) → Result Behind Cause
behind_from limits before [] = Ok (record { uniques = before; hidden = None })
behind_from limits before (key ∷ []) = Err causes.Body
behind_from limits before (key ∷ word ∷ words) =
    if bytes_eq key (codes "uk") && is_columns_text word then behind_from limits (before ++ word ∷ []) words
    else hidden_behind (is_last_pair limits key word words) before word

abbrev pub is_head : List ℕ → List ℕ → List ℕ → Bool
is_head columns key primary = is_count columns && (bytes_eq key (codes "pk") && is_columns_text primary)

abbrev pub shape_with : Limits → List ℕ → List ℕ → List ℕ → List ℕ → List (List ℕ) → Result Shape Cause
shape_with limits name columns key primary words =
    if is_head columns key primary
    then (behind_from limits [] words >>= λ behind. Ok (record { name = name; columns = columns; primary = primary; uniques = behind.uniques; hidden = behind.hidden }))
    else Err causes.Body

unfoldable pub shape_of : Limits → List (List ℕ) → Result Shape Cause
shape_of limits (name ∷ columns ∷ key ∷ primary ∷ words) = do
  named ← some_or_body (name_of limits name)
  shape_with limits named columns key primary words
shape_of limits _ = Err causes.Body

unfoldable pub shape_in : Limits → List ℕ → Result Shape Cause
shape_in limits text = shape_of limits (parts_of 32 text)

-- ---- the table of a shape

-- how many columns and unique keys there are, within the limits
abbrev pub few_columns : Limits → Option ℕ → Result ℕ Cause
few_columns limits None = Err causes.Limit
few_columns limits (Some n) = if nat_le 1 n && nat_le n (most_columns limits) then Ok n else Err causes.Limit

unfoldable pub width_of : Limits → Shape → Result ℕ Cause
width_of limits s = if nat_lt (most_uniques limits) (length s.uniques) then Err causes.Limit else few_columns limits (count_of s.columns)

-- how many of the columns are hidden: one or more, but not all
abbrev pub some_hidden : ℕ → Option ℕ → Result ℕ Cause
some_hidden columns None = Err causes.Limit
some_hidden columns (Some n) = if nat_le 1 n && nat_lt n columns then Ok n else Err causes.Limit

abbrev pub hidden_of : ℕ → Option (List ℕ) → Result ℕ Cause
hidden_of columns None = Ok 0
hidden_of columns (Some count) = some_hidden columns (count_of count)

abbrev pub column_below : ℕ → Option ℕ → Result ℕ Cause
column_below limit None = Err causes.Schema
column_below limit (Some n) = if nat_lt n limit then Ok n else Err causes.Schema

-- the numbers of columns, each below the limit
unfoldable pub numbers_from : ℕ → List ℕ → List (List ℕ) → Result (List ℕ) Cause
numbers_from limit before [] = Ok before
numbers_from limit before (w ∷ ws) = column_below limit (count_of w) >>= λ n. numbers_from limit (before ++ n ∷ []) ws

unfoldable pub columns_in : ℕ → List ℕ → Result (List ℕ) Cause
columns_in limit text = numbers_from limit [] (parts_of 44 text)

unfoldable pub keys_from : ℕ → List (List ℕ) → List (List ℕ) → Result (List (List ℕ)) Cause
keys_from limit before [] = Ok before
keys_from limit before (u ∷ us) = columns_in limit u >>= λ columns. keys_from limit (before ++ columns ∷ []) us

unfoldable pub table_of : Limits → Shape → ℕ → ℕ → Result Table Cause
table_of limits s columns hidden = do
  primary ← columns_in columns s.primary
  uniques ← keys_from columns [] s.uniques
  Ok (record { name = s.name; columns = columns; primary = primary; uniques = uniques; hidden = hidden; limits = limits })

-- texts with narrow limits hide no columns
abbrev pub MayHide : Limits → ℕ → Type 0
MayHide Narrow hidden = hidden ≡ 0
MayHide Wide hidden = Unit {0}

-- a table that texts with these limits have
pub record FitsTable (limits : Limits) (t : Table) : Type 0 where
  pub name : is_named limits t.name ≡ true
  pub hidden : MayHide limits t.hidden
  pub same_limits : t.limits ≡ limits

-- it is left out where no column is hidden
abbrev pub hidden_text : ℕ → Option (List ℕ)
hidden_text zero = None
hidden_text (suc n) = Some (decimal (suc n))

-- the shape of a table's line
abbrev pub shape_for : Table → Shape
shape_for t = record { name = t.name; columns = decimal t.columns; primary = columns_text t.primary; uniques = map columns_text t.uniques; hidden = hidden_text t.hidden }

abbrev pub fault_cause : TableFault → Cause
fault_cause table_faults.Body = causes.Body
fault_cause table_faults.Limit = causes.Limit
fault_cause table_faults.Schema = causes.Schema

abbrev pub after_fault : Option TableFault → List Table → Result (List Table) Cause
after_fault None tables = Ok tables
after_fault (Some fault) tables = Err (fault_cause fault)

-- one table more
unfoldable pub with_table : Limits → List Table → Shape → Result (List Table) Cause
with_table limits tables s = do
  columns ← width_of limits s
  hidden ← hidden_of columns s.hidden
  table ← (if nat_le (most_tables limits) (length tables) then Err causes.Limit else table_of limits s columns hidden)
  after_fault (table_fault tables table) (tables ++ table ∷ [])

unfoldable pub added_table : Limits → List Table → List ℕ → Result (List Table) Cause
added_table limits tables text = do
  shape ← shape_in limits text
  with_table limits tables shape
