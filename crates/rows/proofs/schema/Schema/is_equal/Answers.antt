use Rattle.std.proofs.Common.{sym, ◌∙◌}
use Rattle.std.proofs.lemmas.Slice.Eq.{slice_eq-Decides}
use Rattle.rows.proofs.Equal.{tables-Decide}
use Rattle.rows.proofs.schema.Schema.is_equal.Goals as goal

pub returns : goal.returns
returns c =
    let d = slice_eq-Decides tables-Decide c.tables.result.now c.tables-2.result.now c.eq.result c.eq.ensures in (
      λ e. sym c.tables.ensures.value ∙ d.0 e ∙ c.tables-2.ensures.value,
      λ e. d.1 (c.tables.ensures.value ∙ e ∙ sym c.tables-2.ensures.value),
    )
