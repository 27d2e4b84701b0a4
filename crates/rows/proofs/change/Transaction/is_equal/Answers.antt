use Rattle.std.proofs.Common.{sym, ap, ◌∙◌}
use Rattle.std.proofs.lemmas.Slice.Eq.{slice_eq-Decides}
use Rattle.rows.specs.declared.change.Transaction.{Transaction}
use Rattle.rows.proofs.Equal.{changes-Decide}
use Rattle.rows.proofs.change.Transaction.is_equal.Goals as goal

pub returns : goal.returns
returns c =
    let d = slice_eq-Decides changes-Decide c.as_slice.result.now c.as_slice-2.result.now c.eq.result c.eq.ensures in (
      λ e. let same = sym c.as_slice.ensures ∙ d.0 e ∙ c.as_slice-2.ensures in λ i. record { changes = same i },
      λ e. d.1 (c.as_slice.ensures ∙ ap (λ (t : Transaction). t.changes) e ∙ sym c.as_slice-2.ensures),
    )
