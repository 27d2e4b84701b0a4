-- Values beside none.
use Rattle.std.proofs.Common.{◌≡◌, List, [], ◌∷◌, Some, sym, ap}
use Rattle.std.specs.Prelude.{slice_get}
use Rattle.std.specs.declared.cmp.Ordering.TheVariants.{Greater}
use Rattle.std.specs.Cmp.Lexicographic.{slice_cmp}
use Rattle.row_images.specs.declared.value.Value.{Value}
use Rattle.row_images.specs.Order.{value_cmp}

pub some_beside_none : (xs ys : List Value) (v : Value) → slice_get xs 0 ≡ Some v → ys ≡ [] → Greater ≡ slice_cmp value_cmp xs ys
some_beside_none [] ys v e n = cc
some_beside_none (x ∷ xs) ys v e n = sym (ap (slice_cmp value_cmp (x ∷ xs)) n)
