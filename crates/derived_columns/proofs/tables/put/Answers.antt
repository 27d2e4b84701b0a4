use Rattle.std.proofs.Common.{rules}
use Rattle.derived_columns.specs.Tables.{listed}
use Rattle.derived_columns.proofs.Filed.{put_back}
use Rattle.derived_columns.proofs.tables.put.Goals as goal

pub returns-in-Ok : goal.returns-in-Ok
returns-in-Ok c = λ t. put_back (listed c.args.tables.now) c.in_ok-table.table c.push.new.self c.args.column t _ _ (search rules) (c.take_columns-columns.ensures.left t) (search rules) (c.in-Ok.ensures.updates.0 t)
