use Rattle.history.proofs.Keeping.{purged_is_faithful}
use Rattle.history.proofs.journals.purged_is_faithful.Goals as goal

pub returns : goal.returns
returns c = purged_is_faithful
