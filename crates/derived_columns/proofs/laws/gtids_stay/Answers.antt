use Rattle.derived_columns.proofs.HiddenLaws as laws
use Rattle.derived_columns.proofs.laws.gtids_stay.Goals as goal

pub returns : goal.returns
returns c = laws.gtids_stay
