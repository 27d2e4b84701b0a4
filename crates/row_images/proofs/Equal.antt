-- When tests of equality tell that values are equal.
use Rattle.std.proofs.Common.{◌≡◌, ℕ, Bool, true, false, nat_eq, List, [], ◌∷◌, refl, sym, ap, ◌∙◌}
use Rattle.std.specs.Bool.{Decides}
use Rattle.std.specs.declared.cmp.Ordering.{Ordering}
use Rattle.std.specs.declared.cmp.Ordering.TheVariants.{Less, Equal, Greater}
use Rattle.std.specs.FinMap.{nat_cmp-IsAntisymmetric, slice_cmp-IsAntisymmetric}
use Rattle.std.specs.Ordering.{nat_cmp, is_eq, ordering_then, eq_by_cmp}
use Rattle.std.specs.Cmp.{unsigned_Decides}
use Rattle.std.specs.Cmp.Lexicographic.{slice_cmp, pointwise, nat_list_cmp_total}
use Rattle.std.proofs.lemmas.Cmp.{tied_itself}
use Rattle.std.proofs.lemmas.Slice.Eq.{slice_eq-Decides}
use Rattle.row_images.specs.declared.value.Value.{Value}
use Rattle.row_images.specs.declared.value.Value.TheVariants.{Bytes}
use Rattle.row_images.specs.Order.{value_cmp, row_eq}
use Rattle.row_images.specs.Total.{value_total, value_exact, row_eq_same, row_eq_self}

pub eq_of : (r : Ordering) → is_eq r ≡ true → r ≡ Equal
eq_of Less e = cc
eq_of Equal e = refl
eq_of Greater e = cc

pub names-Decide : (a b : List ℕ) → Decides (eq_by_cmp (slice_cmp nat_cmp) a b) (a ≡ b)
names-Decide a b = (
  λ e. slice_cmp-IsAntisymmetric nat_cmp-IsAntisymmetric a b (eq_of (slice_cmp nat_cmp a b) e),
  λ e. ap (eq_by_cmp (slice_cmp nat_cmp) a) (sym e) ∙ ap is_eq (tied_itself nat_list_cmp_total a),
)

pub rows-Decide : (a b : List Value) → Decides (row_eq a b) (a ≡ b)
rows-Decide a b = (row_eq_same a b, λ e. ap (row_eq a) (sym e) ∙ row_eq_self a)

pub columns-Decide : (a b : List ℕ) → Decides (pointwise nat_eq a b) (a ≡ b)
columns-Decide a b = slice_eq-Decides unsigned_Decides a b (pointwise nat_eq a b) refl

-- two tests of the same thing
pub told : {A : Type 0} (p q : Bool) → Decides p A → Decides q A → p ≡ q
told true true a b = refl
told true false a b = sym (b.1 (a.0 refl))
told false true a b = a.1 (b.0 refl)
told false false a b = refl

-- bytes are compared for equality one by one
pub bytes_told : (a b : List ℕ) → pointwise nat_eq a b ≡ eq_by_cmp (slice_cmp nat_cmp) a b
bytes_told a b = told (pointwise nat_eq a b) (eq_by_cmp (slice_cmp nat_cmp) a b) (columns-Decide a b) (names-Decide a b)

pub values-Decide : (a b : Value) → Decides (eq_by_cmp value_cmp a b) (a ≡ b)
values-Decide a b = (λ e. value_exact a b (eq_of (value_cmp a b) e), λ e. ap (eq_by_cmp value_cmp a) (sym e) ∙ ap is_eq (tied_itself value_total a))

-- so are values
pub rows_told : (a b : List Value) → pointwise (eq_by_cmp value_cmp) a b ≡ row_eq a b
rows_told a b = told (pointwise (eq_by_cmp value_cmp) a b) (row_eq a b) (slice_eq-Decides values-Decide a b (pointwise (eq_by_cmp value_cmp) a b) refl) (rows-Decide a b)

then_equal : (r : Ordering) → r ≡ ordering_then r Equal
then_equal Less = refl
then_equal Equal = refl
then_equal Greater = refl

-- a list of one value is compared as the value is
pub one_compared : (a b : Value) → value_cmp a b ≡ slice_cmp value_cmp (a ∷ []) (b ∷ [])
one_compared a b = then_equal (value_cmp a b)

pub one_told : (a b : Value) → eq_by_cmp value_cmp a b ≡ row_eq (a ∷ []) (b ∷ [])
one_told a b = ap is_eq (one_compared a b)

-- a list of one byte string is compared as its bytes are
pub byte_strings_told : (a b : List ℕ) → pointwise nat_eq a b ≡ row_eq (Bytes a ∷ []) (Bytes b ∷ [])
byte_strings_told a b = bytes_told a b ∙ one_told (Bytes a) (Bytes b)
