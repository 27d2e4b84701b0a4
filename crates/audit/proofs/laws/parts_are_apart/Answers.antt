use Rattle.audit.proofs.Owning.{none_shared_in_parts}
use Rattle.audit.proofs.laws.parts_are_apart.Goals as goal

pub returns : goal.returns
returns c = none_shared_in_parts
