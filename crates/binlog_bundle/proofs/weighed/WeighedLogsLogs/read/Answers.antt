use Rattle.binlog_bundle.proofs.Weighing.{unweighed_so}
use Rattle.binlog_bundle.proofs.weighed.WeighedLogsLogs.read.Goals as goal

pub returns-in-Err-weigh-clause-refused : goal.returns-in-Err-weigh-clause-refused
returns-in-Err-weigh-clause-refused g c =
    unweighed_so c.args.self.now.derivation.now (g.L.Logs.origin c.args.self.now.logs.now) c.args.name.now c.args.text.now c.args.opening.now c.in-Ok.read.log c.in-Err-weigh.fault
    c.in-Ok.ensures.found c.in-Err-weigh.ensures.refused
