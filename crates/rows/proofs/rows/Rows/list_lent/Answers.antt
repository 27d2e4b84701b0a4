use Rattle.std.proofs.Common.{rules}
use Rattle.rows.proofs.Primary.{rows-retained}
use Rattle.rows.proofs.rows.Rows.list_lent.Goals as goal

pub returns-clause-rows : goal.returns-clause-rows
returns-clause-rows c = let retained = rows-retained c.self.inside.carriers in search rules
