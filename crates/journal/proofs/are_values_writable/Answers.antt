use Rattle.std.proofs.Common.{not, ap, ◌∙◌}
use Rattle.std.specs.List.{list_any}
use Rattle.row_images.specs.Values.{is_longer}
use Rattle.journal.proofs.WritableLemmas.{values_writable}
use Rattle.journal.proofs.are_values_writable.Goals as goal

pub returns : goal.returns
returns c =
    ap not (c.has_longer_value.ensures ∙ ap (λ n. list_any (is_longer n) c.args.image.now) c.bytes.ensures) ∙ values_writable c.args.limits c.args.image.now
