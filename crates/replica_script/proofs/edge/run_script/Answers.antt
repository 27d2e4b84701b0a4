use Rattle.replica_script.proofs.Runs.{run_from}
use Rattle.replica_script.proofs.edge.run_script.Goals as goal

pub returns : goal.returns
returns g c = run_from c.args.asking c.start-script.result (g.R.Read.remaining c.args.reader.now) _ _ _ c.start-script.ensures c.answer_lines-ended.ensures
