use Rattle.rows.proofs.TableNames.{next_added}
use Rattle.rows.proofs.schema.names_of.Goals as goal

pub loop-table-preserved : goal.loop-table-preserved
loop-table-preserved c =
    next_added c.loop-table.names.entries c.open.new.self.entries c.args.tables.now c.loop-table.table-index c.table-item.result c.in_ok-name.name tt c.requires c.loop-table-test.true c.table-item.is c.loop-table.invariant c.in_ok-name.ensures.cases
    c.in_ok-open.ensures.entries
