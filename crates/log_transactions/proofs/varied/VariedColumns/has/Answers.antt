use Rattle.std.proofs.Common.{not, List, Option, length, sym, ap, ◌∙◌}
use Rattle.std.specs.Prelude.{◌==◌}
use Rattle.collations.specs.declared.collation.Collation.{Collation}
use Rattle.log_transactions.proofs.KnownLaws.{has_collations}
use Rattle.log_transactions.proofs.varied.VariedColumns.has.Goals as goal

pub returns : goal.returns
returns c =
    ap not (c.is_empty.ensures ∙ ap (λ (cs : List (Option Collation)). length cs == 0) c.in_ok-collations.ensures)
    ∙ sym (has_collations c.args.table.now c.args.column c.args.self.now)
