-- The order of values is total, and only equal ones tie.
use Rattle.std.proofs.Common.{◌≡◌, true, List, refl, ap, arith}
use Rattle.std.specs.declared.cmp.Ordering.{Ordering}
use Rattle.std.specs.declared.cmp.Ordering.TheVariants.{Less, Equal, Greater}
use Rattle.std.specs.Ordering.{ordering_then, is_eq}
use Rattle.std.specs.Cmp.{IsTotalOrder}
use Rattle.std.specs.Cmp.Lexicographic.{slice_cmp}
use Rattle.std.specs.FinMap.{IsAntisymmetric, nat_cmp-IsAntisymmetric, int_cmp-IsAntisymmetric, slice_cmp-IsAntisymmetric}
use Rattle.std.proofs.lemmas.Cmp.{then_total, on_total, nat_cmp_total, int_cmp_total, nat_list_cmp_total, lists_total, tied_itself}
use Rattle.row_images.specs.declared.value.Value.{Value}
use Rattle.row_images.specs.declared.value.Value.TheVariants.{Null, Int, Bytes}
use Rattle.row_images.specs.Order.{kind, number, bytes, value_cmp, row_eq}

pub value_total : IsTotalOrder value_cmp
value_total = then_total (on_total kind nat_cmp_total) (then_total (on_total number int_cmp_total) (on_total bytes nat_list_cmp_total))

pub both_equal : (a b : Ordering) → ordering_then a b ≡ Equal → (a ≡ Equal) × (b ≡ Equal)
both_equal Less b e = cc
both_equal Equal b e = (refl, e)
both_equal Greater b e = cc

same_value : (a b : Value) → kind a ≡ kind b → number a ≡ number b → bytes a ≡ bytes b → a ≡ b
same_value Null Null k n s = refl
same_value Null (Int y) k n s = absurd (omega arith)
same_value Null (Bytes y) k n s = absurd (omega arith)
same_value (Int x) Null k n s = absurd (omega arith)
same_value (Int x) (Int y) k n s = ap Int n
same_value (Int x) (Bytes y) k n s = absurd (omega arith)
same_value (Bytes x) Null k n s = absurd (omega arith)
same_value (Bytes x) (Int y) k n s = absurd (omega arith)
same_value (Bytes x) (Bytes y) k n s = ap Bytes s

pub value_exact : IsAntisymmetric value_cmp
value_exact a b e =
    let p = both_equal _ _ e in
    let q = both_equal _ _ p.1 in
    same_value a b (nat_cmp-IsAntisymmetric _ _ p.0) (int_cmp-IsAntisymmetric _ _ q.0) (slice_cmp-IsAntisymmetric nat_cmp-IsAntisymmetric _ _ q.1)

pub eq_of_test : (r : Ordering) → is_eq r ≡ true → r ≡ Equal
eq_of_test Less e = cc
eq_of_test Equal e = refl
eq_of_test Greater e = cc

pub row_eq_same : (a b : List Value) → row_eq a b ≡ true → a ≡ b
row_eq_same a b e = slice_cmp-IsAntisymmetric value_exact a b (eq_of_test (slice_cmp value_cmp a b) e)

pub row_eq_self : (a : List Value) → row_eq a a ≡ true
row_eq_self a = ap is_eq (tied_itself (lists_total value_total) a)
