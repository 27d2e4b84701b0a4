use Rattle.collations.proofs.Finding as laws
use Rattle.collations.proofs.laws.found_by_number.Goals as goal

pub returns : goal.returns
returns c = laws.found_by_number
