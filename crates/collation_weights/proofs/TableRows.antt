-- The rows of a table can be searched, and have their weights in it.
use Rattle.std.proofs.Common.{◌≡◌, refl, subst, ℕ, zero, suc, ◌+◌, ◌≤◌, Bool, true, false, List, [], ◌∷◌, length, get_or, arith}
use Rattle.std.specs.Prelude.{nat_lt, nat_le, ◌&&◌, Option, Some, None, IfSome}
use Rattle.std.specs.List.{AllAdjacentBelow, Contains}
use Rattle.std.specs.List.Sorted.{IsNonDecreasingBy}
use Rattle.std.proofs.lemmas.List.Sorted.{IsNonDecreasingBy-from_all_adjacent}
use Rattle.std.proofs.lemmas.List.Sums.{AllPass-from_list_all}
use Rattle.collation_weights.specs.Rows.{are_rising, IsWithin}
use Rattle.collation_weights.specs.Tables.{rows_of, weights_of}
use Rattle.collation_weights.specs.declared.row.WeightRow.{WeightRow}
use Rattle.collation_weights.specs.declared.tables.WeightTable.{WeightTable}
use Rattle.collation_weights.proofs.TableFacts.{rise, within}

both : (p q : Bool) → (p && q) ≡ true → (p ≡ true) × (q ≡ true)
both true q it = (refl, it)
both false q it = (it, grind (arith, it))

below : (m n : ℕ) → nat_lt m n ≡ true → m ≤ n
below m n it = grind (arith, it)

at_most : (m n : ℕ) → nat_le m n ≡ true → m ≤ n
at_most m n it = grind (arith, it)

adjacent : (rows : List WeightRow) → are_rising rows ≡ true → AllAdjacentBelow (λ x y. x.0 ≤ y.0) rows (length rows)
adjacent [] it k d lt = absurd (omega (arith, lt))
adjacent (r ∷ []) it k d lt = absurd (omega (arith, lt))
adjacent (r ∷ s ∷ rows) it zero d lt = below r.0 s.0 (both (nat_lt r.0 s.0) (are_rising (s ∷ rows)) it).0
adjacent (r ∷ s ∷ rows) it (suc k) d lt =
    let next : suc (k + 1) ≡ suc k + 1 = omega arith in
    subst (λ m. (get_or (s ∷ rows) k d).0 ≤ (get_or (r ∷ s ∷ rows) m d).0) next
    (adjacent (s ∷ rows) (both (nat_lt r.0 s.0) (are_rising (s ∷ rows)) it).1 k d (omega (arith, lt)))

pub can_be_searched : (table : WeightTable) → IsNonDecreasingBy (λ row. row.0) (rows_of table)
can_be_searched table = IsNonDecreasingBy-from_all_adjacent (λ row. row.0) (rows_of table) (adjacent (rows_of table) (rise table))

pub is_within : (table : WeightTable) (row : WeightRow) → Contains (rows_of table) row → IsWithin (weights_of table) row
is_within table row it =
    at_most (row.2 + row.3) (length (weights_of table))
    (subst (λ r. nat_le (r.2 + r.3) (length (weights_of table)) ≡ true) it.2
    (AllPass-from_list_all (λ r. nat_le (r.2 + r.3) (length (weights_of table))) (rows_of table) (within table) it.0 row it.1))

pub within_found : (table : WeightTable) (rows : List WeightRow) (found : Option WeightRow) → rows ≡ rows_of table
    → IfSome found (Contains rows) → IfSome found (IsWithin (weights_of table))
within_found table rows None same it = it
within_found table rows (Some row) same it = is_within table row (subst (λ rs. Contains rs row) same it)
