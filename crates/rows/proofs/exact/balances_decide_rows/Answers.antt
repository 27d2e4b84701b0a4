use Rattle.rows.proofs.Counted.{balances_decide_rows}
use Rattle.rows.proofs.exact.balances_decide_rows.Goals as goal

pub returns : goal.returns
returns c = balances_decide_rows
