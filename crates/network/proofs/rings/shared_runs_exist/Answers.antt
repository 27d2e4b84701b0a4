use Rattle.network.proofs.SharedRun.{shared_runs_exist}
use Rattle.network.proofs.rings.shared_runs_exist.Goals as goal

pub returns : goal.returns
returns c = shared_runs_exist
