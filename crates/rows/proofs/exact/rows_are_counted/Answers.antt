use Rattle.rows.proofs.Counted.{rows_are_counted}
use Rattle.rows.proofs.exact.rows_are_counted.Goals as goal

pub returns : goal.returns
returns c = rows_are_counted
