use Rattle.history.proofs.Keeping.{faithful_goes_on}
use Rattle.history.proofs.journals.faithful_goes_on.Goals as goal

pub returns : goal.returns
returns c = faithful_goes_on
