use Rattle.gtid_report.proofs.ShownRows.{own_found}
use Rattle.gtid_report.proofs.state.find_near.Goals as goal

pub returns-clause-own : goal.returns-clause-own
returns-clause-own c = own_found c.args.name.now c.args.schema.now c.find.result c.find.ensures.found
