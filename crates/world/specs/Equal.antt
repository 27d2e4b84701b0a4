-- When two transactions are equal: the same changes of the same rows, in the same order.
use Rattle.std.specs.Prelude.{ℕ, Bool, true, false, ◌&&◌, List, [], ◌∷◌}
use Rattle.std.specs.Ordering.{nat_cmp, eq_by_cmp}
use Rattle.std.specs.Cmp.Lexicographic.{slice_cmp}
use Rattle.rows.specs.declared.change.Change.{Change}
use Rattle.rows.specs.declared.change.Change.TheVariants.{Insert, Delete, Update}
use Rattle.rows.specs.declared.change.Transaction.{Transaction}
use Rattle.row_images.specs.Order.{row_eq}

abbrev pub name_eq : List ℕ → List ℕ → Bool
name_eq a b = eq_by_cmp (slice_cmp nat_cmp) a b

abbrev pub change_eq : Change → Change → Bool
change_eq (Insert a x) (Insert b y) = name_eq a b && row_eq x y
change_eq (Delete a x) (Delete b y) = name_eq a b && row_eq x y
change_eq (Update a x u) (Update b y v) = name_eq a b && (row_eq x y && row_eq u v)
change_eq (Insert a x) (Delete b y) = false
change_eq (Insert a x) (Update b y v) = false
change_eq (Delete a x) (Insert b y) = false
change_eq (Delete a x) (Update b y v) = false
change_eq (Update a x u) (Insert b y) = false
change_eq (Update a x u) (Delete b y) = false

abbrev pub changes_eq : List Change → List Change → Bool
changes_eq [] [] = true
changes_eq [] (d ∷ ds) = false
changes_eq (c ∷ cs) [] = false
changes_eq (c ∷ cs) (d ∷ ds) = change_eq c d && changes_eq cs ds

abbrev pub txn_eq : Transaction → Transaction → Bool
txn_eq t u = changes_eq t.changes u.changes
