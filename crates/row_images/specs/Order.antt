-- The order of values.
use Rattle.std.specs.Prelude.{◌≡◌, ℕ, ℤ, pos, Bool, List, [], Some, slice_get}
use Rattle.std.specs.declared.cmp.Ordering.{Ordering}
use Rattle.std.specs.Ordering.{nat_cmp, int_cmp, ordering_then, eq_by_cmp}
use Rattle.std.specs.Cmp.Lexicographic.{slice_cmp}
use Rattle.row_images.specs.declared.value.Value.{Value}
use Rattle.row_images.specs.declared.value.Value.TheVariants.{Null, Int, Bytes}

-- null comes first, then the numbers, then the byte strings
abbrev pub kind : Value → ℕ
kind Null = 0
kind (Int n) = 1
kind (Bytes b) = 2

abbrev pub number : Value → ℤ
number (Int n) = n
number Null = pos 0
number (Bytes b) = pos 0

abbrev pub bytes : Value → List ℕ
bytes (Bytes b) = b
bytes Null = []
bytes (Int n) = []

-- by kind, then numbers by size and byte strings byte by byte
abbrev pub value_cmp : Value → Value → Ordering
value_cmp a b = ordering_then (nat_cmp (kind a) (kind b)) (ordering_then (int_cmp (number a) (number b)) (slice_cmp nat_cmp (bytes a) (bytes b)))

abbrev pub row_eq : List Value → List Value → Bool
row_eq a b = eq_by_cmp (slice_cmp value_cmp) a b

-- the kind, number and bytes by which a value is ordered
pub record IsRankOf (value : Value) (a_kind : ℕ) (a_number : ℤ) (some_bytes : List ℕ) : Type 0 where
  pub kind : a_kind ≡ kind value
  pub number : a_number ≡ number value
  pub bytes : some_bytes ≡ bytes value

-- those of the first of values
pub record IsFirstRank (values : List Value) (a_kind : ℕ) (a_number : ℤ) (some_bytes : List ℕ) : Type 0 where
  pub value : Value
  pub first : slice_get values 0 ≡ Some value
  pub rank : IsRankOf value a_kind a_number some_bytes
