-- Equal transactions.
use Rattle.std.proofs.Common.{◌≡◌, ℕ, true, ◌&&◌, List, [], ◌∷◌, refl, ap}
use Rattle.std.specs.Ordering.{is_eq, nat_cmp}
use Rattle.std.specs.Cmp.Lexicographic.{slice_cmp}
use Rattle.std.specs.FinMap.{nat_cmp-IsAntisymmetric, slice_cmp-IsAntisymmetric}
use Rattle.std.proofs.lemmas.Cmp.{nat_list_cmp_total, tied_itself}
use Rattle.rows.specs.declared.change.Change.{Change}
use Rattle.rows.specs.declared.change.Change.TheVariants.{Insert, Delete, Update}
use Rattle.rows.specs.declared.change.Transaction.{Transaction}
use Rattle.row_images.specs.Total.{row_eq_same, row_eq_self}
use Rattle.row_images.specs.Order.{row_eq}
use Rattle.world.specs.Equal.{name_eq, change_eq, changes_eq, txn_eq}
use Rattle.std.proofs.lemmas.Bool.{and_parts, and_from}
use Rattle.lemmas.proofs.Numbers.{equal_of}

name_same : (a b : List ℕ) → name_eq a b ≡ true → a ≡ b
name_same a b e = slice_cmp-IsAntisymmetric nat_cmp-IsAntisymmetric a b (equal_of (slice_cmp nat_cmp a b) e)

name_self : (a : List ℕ) → name_eq a a ≡ true
name_self a = ap is_eq (tied_itself nat_list_cmp_total a)

change_same : (c d : Change) → change_eq c d ≡ true → c ≡ d
change_same (Insert a x) (Insert b y) e = let p = and_parts (name_eq a b) (row_eq x y) e in λ i. Insert (name_same a b p.0 i) (row_eq_same x y p.1 i)
change_same (Delete a x) (Delete b y) e = let p = and_parts (name_eq a b) (row_eq x y) e in λ i. Delete (name_same a b p.0 i) (row_eq_same x y p.1 i)
change_same (Update a x u) (Update b y v) e =
    let p = and_parts (name_eq a b) (row_eq x y && row_eq u v) e in
    let q = and_parts (row_eq x y) (row_eq u v) p.1 in
    λ i. Update (name_same a b p.0 i) (row_eq_same x y q.0 i) (row_eq_same u v q.1 i)
change_same (Insert a x) (Delete b y) e = cc
change_same (Insert a x) (Update b y v) e = cc
change_same (Delete a x) (Insert b y) e = cc
change_same (Delete a x) (Update b y v) e = cc
change_same (Update a x u) (Insert b y) e = cc
change_same (Update a x u) (Delete b y) e = cc

change_self : (c : Change) → change_eq c c ≡ true
change_self (Insert a x) = and_from (name_eq a a) (row_eq x x) (name_self a) (row_eq_self x)
change_self (Delete a x) = and_from (name_eq a a) (row_eq x x) (name_self a) (row_eq_self x)
change_self (Update a x u) = and_from (name_eq a a) (row_eq x x && row_eq u u) (name_self a) (and_from (row_eq x x) (row_eq u u) (row_eq_self x) (row_eq_self u))

changes_same : (cs ds : List Change) → changes_eq cs ds ≡ true → cs ≡ ds
changes_same [] [] e = refl
changes_same [] (d ∷ ds) e = cc
changes_same (c ∷ cs) [] e = cc
changes_same (c ∷ cs) (d ∷ ds) e = let p = and_parts (change_eq c d) (changes_eq cs ds) e in λ i. change_same c d p.0 i ∷ changes_same cs ds p.1 i

changes_self : (cs : List Change) → changes_eq cs cs ≡ true
changes_self [] = refl
changes_self (c ∷ cs) = and_from (change_eq c c) (changes_eq cs cs) (change_self c) (changes_self cs)

pub txn_same : (t u : Transaction) → txn_eq t u ≡ true → t ≡ u
txn_same t u e = let p = changes_same t.changes u.changes e in λ i. record { changes = p i }

pub txn_self : (t : Transaction) → txn_eq t t ≡ true
txn_self t = changes_self t.changes
