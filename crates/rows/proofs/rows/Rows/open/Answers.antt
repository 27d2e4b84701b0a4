use Rattle.std.proofs.Common.{sym, subst}
use Rattle.rows.specs.Database.{AreRowsOf}
use Rattle.rows.proofs.FitLemmas.{no_rows}
use Rattle.rows.proofs.rows.Rows.open.Goals as goal

pub invariant_of-result : goal.invariant_of-result
invariant_of-result c = subst (AreRowsOf c.args.schema) (sym c.new.ensures) (no_rows c.args.schema)
