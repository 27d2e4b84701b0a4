use Rattle.derived_columns.proofs.Filed.{left_out}
use Rattle.derived_columns.proofs.tables.take_columns.Goals as goal

pub returns-in-Some-clause-left : goal.returns-in-Some-clause-left
returns-in-Some-clause-left c = λ t. left_out c.args.table.now t _ _ (c.in-Some.ensures.updates.0 t)
