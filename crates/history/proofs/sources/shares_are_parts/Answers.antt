use Rattle.history.proofs.Shares.{shares_are_parts}
use Rattle.history.proofs.sources.shares_are_parts.Goals as goal

pub returns : goal.returns
returns c = shares_are_parts
