use Rattle.history.proofs.Keeping.{whole_is_closed}
use Rattle.history.proofs.journals.whole_is_closed.Goals as goal

pub returns : goal.returns
returns c = whole_is_closed
