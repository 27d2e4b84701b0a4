-- What is held in one of two forms, whichever it is.
use Rattle.std.specs.Prelude.{◌≡◌, ℕ, List, [], ◌∷◌}
use Rattle.std.specs.Arc.{arc_slice_items, arc_value}
use Rattle.row_images.specs.declared.value.Value.{Value}
use Rattle.row_images.specs.declared.value.Held.{Held}
use Rattle.row_images.specs.declared.value.Held.TheVariants.{Short, Shared}
use Rattle.row_images.specs.declared.key_values.HeldValues.{HeldValues}
use Rattle.row_images.specs.declared.key_values.HeldValues.TheVariants as hold
use Rattle.row_images.specs.declared.image_text.ImageText.{ImageText}
use Rattle.row_images.specs.declared.image_text.ImageText.TheVariants as texts

-- the bytes of a byte string
abbrev pub held_bytes : Held → List ℕ
held_bytes (Short bytes) = bytes
held_bytes (Shared items) = arc_slice_items items

-- the values of a key
abbrev pub held_values : HeldValues → List Value
held_values hold.Null = Value.Null ∷ []
held_values (hold.Int n) = Value.Int n ∷ []
held_values (hold.Short bytes) = Value.Bytes bytes ∷ []
held_values (hold.Shared items) = Value.Bytes (arc_slice_items items) ∷ []
held_values (hold.Several items) = arc_slice_items items

-- the text of an image, and how many values it has
abbrev pub image_bytes : ImageText → List ℕ
image_bytes (texts.Small n text) = arc_value text
image_bytes (texts.Short n text) = arc_value text
image_bytes (texts.Long n text) = arc_slice_items text

abbrev pub image_values : ImageText → ℕ
image_values (texts.Small n text) = n
image_values (texts.Short n text) = n
image_values (texts.Long n text) = n

abbrev pub HasText : ImageText → List ℕ → ℕ → Type 0
HasText it bytes values = (image_bytes it ≡ bytes) × (image_values it ≡ values)
