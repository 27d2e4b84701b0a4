-- The values of a row, each after a blank.
use Rattle.std.proofs.Common.{◌≡◌, ℕ, false, eqb, List, [], ◌∷◌, ◌++◌, length, refl, sym, ap, ◌∙◌, append_assoc, arith}
use Rattle.std.proofs.lemmas.List.{append-nil}
use Rattle.row_images.specs.declared.value.Value.{Value}
use Rattle.row_images.specs.Values.{value_text}
use Rattle.row_images.specs.Images as images
use Rattle.gtid_report.specs.State.{values_text}

joined : (v : Value) (vs : List Value) → 32 ∷ images.values_text (v ∷ vs) ≡ values_text (v ∷ vs)
joined v [] = sym (append-nil (32 ∷ value_text v))
joined v (w ∷ vs) = ap (λ (t : List ℕ). 32 ∷ (value_text v ++ t)) (joined w vs)

some_joined : (vs : List Value) → eqb (length vs) 0 ≡ false → 32 ∷ images.values_text vs ≡ values_text vs
some_joined [] some = absurd cc
some_joined (v ∷ vs) some = joined v vs

pub values_joined : (out : List ℕ) (vs : List Value) → eqb (length vs) 0 ≡ false → (out ++ 32 ∷ []) ++ images.values_text vs ≡ out ++ values_text vs
values_joined out vs some = append_assoc out (32 ∷ []) (images.values_text vs) ∙ ap (λ (t : List ℕ). out ++ t) (some_joined vs some)

pub nothing_joined : (vs : List Value) → 0 ≡ length vs → [] ≡ values_text vs
nothing_joined [] none = refl
nothing_joined (v ∷ vs) none = absurd (omega (arith, none))
