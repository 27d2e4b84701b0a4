-- Columns by their tables, in order, with their collations.
use Rattle.std.specs.Prelude.{◌≡◌, ℕ, List, [], Option, Some, None}
use Rattle.std.specs.BTreeMap.{BTreeMap, get}
use Rattle.std.specs.Cmp.Lexicographic.{slice_cmp}
use Rattle.std.specs.Ordering.{nat_cmp, ordering_then}
use Rattle.std.specs.Global.{Vec}
use Rattle.std.specs.declared.cmp.Ordering.{Ordering}
use Rattle.collations.specs.declared.collation.Collation.{Collation}
use Rattle.log_transactions.specs.Varied.{collations_of}
use Rattle.log_transactions.specs.declared.varied.Varied.{Varied}

-- a column's table, and its place
abbrev pub Place : Type 0
Place = List ℕ × ℕ

abbrev pub place_cmp : Place → Place → Ordering
place_cmp p q = ordering_then (slice_cmp nat_cmp p.0 q.0) (nat_cmp p.1 q.1)

-- the collations that are kept of a column, none where nothing is
abbrev pub or_none : Option (Vec (Option Collation)) → List (Option Collation)
or_none None = []
or_none (Some collations) = collations.items

-- each column has its collations in the list
abbrev pub AreKnown : List Varied → BTreeMap Place (Vec (Option Collation)) → Type 0
AreKnown varied known = (table : List ℕ) (column : ℕ) → or_none (get place_cmp known (table, column)) ≡ collations_of table column varied
