use Rattle.std.proofs.Common.{subst}
use Rattle.row_images.specs.Held.{image_bytes}
use Rattle.row_images.specs.Images.{AreValues}
use Rattle.row_images.proofs.ImageLaws.{values_fit}
use Rattle.row_images.proofs.row.Row.keeps_rules.Goals as goal

pub returns : goal.returns
returns c = subst AreValues c.self.view_is (values_fit (image_bytes c.self.inside.text))
