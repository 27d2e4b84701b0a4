use Rattle.std.proofs.Common.{List, ℕ, ap, ◌∙◌}
use Rattle.std.specs.List.{list_any}
use Rattle.row_images.specs.Values.{is_null}
use Rattle.rows.specs.Keys.{values_in}
use Rattle.audit.proofs.Worded.{any_null}
use Rattle.audit.proofs.marks.has_null.Goals as goal

pub returns : goal.returns
returns c =
    c.has_null_at.ensures ∙ any_null c.as_slice.result.now c.args.row.now
    ∙ ap (λ (columns : List ℕ). list_any is_null (values_in columns c.args.row.now)) c.as_slice.ensures
