use Rattle.history.proofs.Keeping.{whole_applies}
use Rattle.history.proofs.journals.whole_applies.Goals as goal

pub returns : goal.returns
returns c = whole_applies
