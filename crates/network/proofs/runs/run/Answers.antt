use Rattle.network.specs.Machine.{answered_events}
use Rattle.network.proofs.Merging.{run_merges}
use Rattle.network.proofs.Equalling.{run_is_exact}
use Rattle.network.proofs.runs.run.Goals as goal

pub returns-clause-merged : goal.returns-clause-merged
returns-clause-merged c =
    let told = c.run.result.0.items in
    run_merges c.args.network.now (answered_events told c.args.events.now) told c.run.new.self c.run.ensures.replies c.run.ensures.nodes

pub returns-clause-exact : goal.returns-clause-exact
returns-clause-exact c =
    let told = c.run.result.0.items in
    run_is_exact c.args.network.now (answered_events told c.args.events.now) c.run.new.self c.run.ensures.nodes
