-- Columns by their tables, in order, with their collations.
use Rattle.std.proofs.Common.{◌≡◌, ℕ, suc, Bool, true, false, cond, List, [], ◌∷◌, ◌++◌, length, Option, Some, refl, sym, ap, ◌∙◌, arith}
use Rattle.std.specs.Prelude.{◌&&◌, ◌||◌, ◌==◌, not}
use Rattle.std.specs.BTreeMap.{BTreeMap, get, Updates, IsUnchanged}
use Rattle.std.specs.Cmp.Lexicographic.{slice_cmp}
use Rattle.std.specs.Map.{lookup}
use Rattle.std.specs.Ordering.{nat_cmp, is_eq, ordering_then}
use Rattle.std.specs.Str.{bytes_eq}
use Rattle.std.specs.Global.{Vec}
use Rattle.std.specs.declared.cmp.Ordering.{Ordering}
use Rattle.std.specs.declared.cmp.Ordering.TheVariants.{Less, Equal, Greater}
use Rattle.std.proofs.lemmas.Map.Text.{is_eq-slice_cmp}
use Rattle.std.proofs.lemmas.Bool.Decides.{nat_tests}
use Rattle.std.proofs.lemmas.Slice.Eq.{bytes_eq-Decides}
use Rattle.collations.specs.declared.collation.Collation.{Collation}
use Rattle.log_transactions.specs.Varied.{is_column, has_varied, collations_of}
use Rattle.log_transactions.specs.Known.{Place, place_cmp, or_none, AreKnown}
use Rattle.log_transactions.specs.declared.varied.Varied.{Varied}

-- ---- places

both_equal : (o p : Ordering) → is_eq (ordering_then o p) ≡ (is_eq o && is_eq p)
both_equal Less p = refl
both_equal Equal p = refl
both_equal Greater p = refl

equal_numbers : (x y : ℕ) → is_eq (nat_cmp x y) ≡ (x == y)
equal_numbers x y = grind (arith, nat_tests)

same_place : (table other : List ℕ) (column at : ℕ) → is_eq (place_cmp (table, column) (other, at)) ≡ (bytes_eq table other && (column == at))
same_place table other column at =
    both_equal (slice_cmp nat_cmp table other) (nat_cmp column at)
    ∙ ap (λ (b : Bool). b && is_eq (nat_cmp column at)) (is_eq-slice_cmp table other)
    ∙ ap (λ (b : Bool). bytes_eq table other && b) (equal_numbers column at)

both_true : (a b : Bool) → (a && b) ≡ true → (a ≡ true) × (b ≡ true)
both_true true b e = (refl, e)
both_true false b e = absurd cc

same_number : (x y : ℕ) → (x == y) ≡ true → x ≡ y
same_number x y e = grind (arith, nat_tests)

-- ---- a column more

abbrev with_last : Bool → List (Option Collation) → Option Collation → List (Option Collation)
with_last b cs c = cond b (cs ++ c ∷ []) cs

first_or : (a b : Bool) (c d : Option Collation) (cs ds : List (Option Collation)) → ds ≡ with_last b cs d
    → cond a (c ∷ ds) ds ≡ with_last b (cond a (c ∷ cs) cs) d
first_or true true c d cs ds e = ap (λ (xs : List (Option Collation)). c ∷ xs) e
first_or true false c d cs ds e = ap (λ (xs : List (Option Collation)). c ∷ xs) e
first_or false b c d cs ds e = e

collations_push : (table : List ℕ) (column : ℕ) (vs : List Varied) (v : Varied) → collations_of table column (vs ++ v ∷ []) ≡ with_last (is_column table column v) (collations_of table column vs) v.collation
collations_push table column [] v = refl
collations_push table column (w ∷ vs) v =
    first_or (is_column table column w) (is_column table column v) w.collation v.collation (collations_of table column vs) (collations_of table column (vs ++ v ∷ []))
    (collations_push table column vs v)

module _ (vs : List Varied) (old new : BTreeMap Place (Vec (Option Collation))) (v : Varied) (more : Vec (Option Collation)) where
  found : (b : Bool) (table : List ℕ) (column : ℕ) → (b ≡ true → (v.table ≡ table) × (v.column ≡ column)) → more.items ≡ collations_of v.table v.column vs ++ v.collation ∷ []
      → or_none (get place_cmp old (table, column)) ≡ collations_of table column vs
      → or_none (cond b (Some more) (get place_cmp old (table, column))) ≡ with_last b (collations_of table column vs) v.collation
  found true table column same is e =
      let p = same refl in
      is ∙ (λ i. collations_of (p.0 i) (p.1 i) vs ++ v.collation ∷ [])
  found false table column same is e = e

  -- a column with the collations of before, and its own behind them
  pub known_more : AreKnown vs old → more.items ≡ collations_of v.table v.column vs ++ v.collation ∷ [] → Updates place_cmp old new (v.table, v.column) (Some more) → AreKnown (vs ++ v ∷ []) new
  known_more are is updates table column =
      ap or_none (updates.0 (table, column))
      ∙ ap (λ (b : Bool). or_none (cond b (Some more) (get place_cmp old (table, column)))) (same_place v.table table v.column column)
      ∙ found (is_column table column v) table column same is (are table column)
      ∙ sym (collations_push table column vs v)
    where
      same : is_column table column v ≡ true → (v.table ≡ table) × (v.column ≡ column)
      same e = let p = both_true (bytes_eq v.table table) (v.column == column) e in ((bytes_eq-Decides v.table table).0 p.0, same_number v.column column p.1)

-- entries that are as before are those of the columns of before
pub known_same : (vs : List Varied) (old new : BTreeMap Place (Vec (Option Collation))) → IsUnchanged old new → AreKnown vs old → AreKnown vs new
known_same vs old new same are table column = ap (λ es. or_none (lookup (λ k. is_eq (place_cmp (table, column) k)) es)) same ∙ are table column

-- ---- what is asked

one_more : (n : ℕ) → true ≡ not (suc n == 0)
one_more n = grind (arith, nat_tests)

some_first : (b : Bool) (c : Option Collation) (cs : List (Option Collation)) (has : Bool) → has ≡ not (length cs == 0) → (b || has) ≡ not (length (cond b (c ∷ cs) cs) == 0)
some_first true c cs has e = one_more (length cs)
some_first false c cs has e = e

-- a column is among them where they say a collation of it, or that it has none
pub has_collations : (table : List ℕ) (column : ℕ) (vs : List Varied) → has_varied table column vs ≡ not (length (collations_of table column vs) == 0)
has_collations table column [] = refl
has_collations table column (v ∷ vs) = some_first (is_column table column v) v.collation (collations_of table column vs) (has_varied table column vs) (has_collations table column vs)
