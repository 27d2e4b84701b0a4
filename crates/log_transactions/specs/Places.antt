-- The places of tables, by their names.
use Rattle.std.specs.Prelude.{◌≡◌, ℕ, suc, List, [], ◌∷◌, Option, Some, None, option_map, if◌then◌else◌}
use Rattle.std.specs.BTreeMap.{BTreeMap, get}
use Rattle.std.specs.Cmp.Lexicographic.{slice_cmp}
use Rattle.std.specs.Ordering.{nat_cmp}
use Rattle.std.specs.Str.{bytes_eq}
use Rattle.log_transactions.specs.declared.mapped.StatementTable.{StatementTable}

-- the place of the first table of this name
abbrev pub place_of : List ℕ → List StatementTable → Option ℕ
place_of name [] = None
place_of name (t ∷ ts) = if bytes_eq t.name name then Some 0 else option_map suc (place_of name ts)

-- each name has the place of the first table of this name
abbrev pub ArePlaces : List StatementTable → BTreeMap (List ℕ) ℕ → Type 0
ArePlaces tables places = (name : List ℕ) → get (slice_cmp nat_cmp) places name ≡ place_of name tables
