-- The text of two images with a blank between is that of all their values, and a text tells its values.
use Rattle.std.proofs.Common.{◌≡◌, ℕ, ◌<◌, List, [], ◌∷◌, ◌++◌, length, map, Option, Some, refl, sym, ap, ◌∙◌, append_assoc, arith}
use Rattle.std.proofs.lemmas.List.{map-append}
use Rattle.lemmas.proofs.Lists.{all_append}
use Rattle.row_images.specs.declared.value.Value.{Value}
use Rattle.row_images.specs.Parts.{joined_by}
use Rattle.row_images.specs.Values.{value_text, FitsValue}
use Rattle.row_images.specs.Images.{values_text, values_in, image_of, AreValues}
use Rattle.row_images.proofs.ImageLaws.{image_again, written_in}

joined_twice : (c : ℕ) (w : List ℕ) (ws : List (List ℕ)) (x : List ℕ) (xs : List (List ℕ)) → joined_by c (w ∷ ws ++ x ∷ xs) ≡ joined_by c (w ∷ ws) ++ c ∷ joined_by c (x ∷ xs)
joined_twice c w [] x xs = refl
joined_twice c w (v ∷ ws) x xs =
    ap (λ (t : List ℕ). w ++ c ∷ t) (joined_twice c v ws x xs) ∙ sym (append_assoc w (c ∷ joined_by c (v ∷ ws)) (c ∷ joined_by c (x ∷ xs)))

text_of_both : (u : Value) (us : List Value) (v : Value) (vs : List Value) → values_text (u ∷ us ++ v ∷ vs) ≡ (values_text (u ∷ us) ++ 32 ∷ []) ++ values_text (v ∷ vs)
text_of_both u us v vs =
    ap (λ (ws : List (List ℕ)). joined_by 32 (value_text u ∷ ws)) (map-append value_text us (v ∷ vs))
    ∙ joined_twice 32 (value_text u) (map value_text us) (value_text v) (map value_text vs)
    ∙ sym (append_assoc (values_text (u ∷ us)) (32 ∷ []) (values_text (v ∷ vs)))

pub both_are_read : (a b : List Value) → 0 < length a → 0 < length b → AreValues a → AreValues b → image_of ((values_text a ++ 32 ∷ []) ++ values_text b) ≡ Some (a ++ b)
both_are_read [] b some other f g = absurd (omega arith)
both_are_read (u ∷ us) [] some other f g = absurd (omega arith)
both_are_read (u ∷ us) (v ∷ vs) some other f g =
    ap image_of (sym (text_of_both u us v vs)) ∙ image_again u (us ++ v ∷ vs) (all_append FitsValue (u ∷ us) (v ∷ vs) f g)

pub read_back : (a b : List Value) (text : List ℕ) (found : Option (List Value)) → 0 < length a → 0 < length b → AreValues a → AreValues b
    → text ≡ (values_text a ++ 32 ∷ []) ++ values_text b → found ≡ image_of text → found ≡ Some (a ++ b)
read_back a b text found some other f g is h = h ∙ ap image_of is ∙ both_are_read a b some other f g

pub text_tells : (a b : List Value) → AreValues a → AreValues b → values_text a ≡ values_text b → a ≡ b
text_tells a b fits fits_too e = sym (written_in a fits) ∙ ap values_in e ∙ written_in b fits_too
