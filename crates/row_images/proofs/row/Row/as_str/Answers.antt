use Rattle.std.proofs.Common.{subst, sym, ◌∙◌}
use Rattle.row_images.specs.Held.{image_bytes}
use Rattle.std.specs.Str.{IsUtf8}
use Rattle.row_images.specs.Images.{values_in}
use Rattle.row_images.proofs.ImageLaws.{values_fit}
use Rattle.row_images.proofs.RowLaws.{values_utf8}
use Rattle.row_images.proofs.row.Row.as_str.Goals as goal

pub from_utf8_unchecked-requires : goal.from_utf8_unchecked-requires
from_utf8_unchecked-requires c =
    let t = image_bytes c.self.inside.text in
    subst IsUtf8 (c.self.invariant.0 ∙ sym c.as_slice.ensures.value) (values_utf8 (values_in t) (values_fit t))
