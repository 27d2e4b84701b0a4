use Rattle.serving.proofs.Unknown.{keys_settle}
use Rattle.serving.proofs.laws.keys_settle.Goals as goal

pub returns : goal.returns
returns c = keys_settle
