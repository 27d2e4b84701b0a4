use Rattle.rows.proofs.Counted.{changes_decide_rows}
use Rattle.rows.proofs.exact.changes_decide_rows.Goals as goal

pub returns : goal.returns
returns c = changes_decide_rows
