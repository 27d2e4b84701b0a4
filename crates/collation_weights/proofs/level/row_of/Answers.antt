use Rattle.std.proofs.Common.{sym, subst}
use Rattle.std.specs.List.Sorted.{IsNonDecreasingBy}
use Rattle.collation_weights.proofs.TableRows.{can_be_searched, within_found}
use Rattle.collation_weights.proofs.level.row_of.Goals as goal

pub row_at-requires : goal.row_at-requires
row_at-requires c = subst (IsNonDecreasingBy (λ row. row.0)) (sym c.rows.ensures) (can_be_searched c.args.table)

pub returns-clause-within : goal.returns-clause-within
returns-clause-within c = within_found c.args.table c.rows.result.now c.row_at.result c.rows.ensures c.row_at.ensures.among
