-- What values and keys feed a hasher.
use Rattle.std.specs.Prelude.{◌≡◌, ℕ, List, [], ◌∷◌, IsTrue}
use Rattle.std.proofs.Common.{ap}
use Rattle.std.specs.declared.cmp.Ordering.{Ordering}
use Rattle.std.specs.FinMap.{IsAntisymmetric}
use Rattle.std.specs.Hash as fed
use Rattle.std.specs.Hash.{HashWrites}
use Rattle.std.specs.Ordering.{eq_by_cmp}
use Rattle.row_images.specs.declared.value.Value.{Value}
use Rattle.row_images.specs.declared.value.Value.TheVariants.{Null, Int, Bytes}
use Rattle.row_images.specs.Total.{eq_of_test}

-- all bytes at once
abbrev pub bytes_writes : List ℕ → HashWrites
bytes_writes bytes = bytes ∷ []

-- a number or bytes, at once
abbrev pub value_writes : Value → HashWrites
value_writes Null = fed.u8 0
value_writes (Int n) = fed.i64 n
value_writes (Bytes b) = bytes_writes b

abbrev pub row_writes : List Value → HashWrites
row_writes row = fed.slice value_writes row

-- one value alone, or how many there are and then each
abbrev pub key_writes : List Value → HashWrites
key_writes [] = row_writes []
key_writes (value ∷ []) = value_writes value
key_writes (value ∷ other ∷ values) = row_writes (value ∷ other ∷ values)

-- Values that an exact order finds equal feed a hasher alike.
pub alike_by : {A : Type 0} (f : A → HashWrites) {R : A → A → Ordering} → IsAntisymmetric R → (x y : A) → IsTrue (eq_by_cmp R x y) → f x ≡ f y
alike_by f {R} exact x y e = ap f (exact x y (eq_of_test (R x y) e))
