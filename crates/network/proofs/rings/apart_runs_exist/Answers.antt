use Rattle.network.proofs.Small.{apart_runs_exist}
use Rattle.network.proofs.rings.apart_runs_exist.Goals as goal

pub returns : goal.returns
returns c = apart_runs_exist
