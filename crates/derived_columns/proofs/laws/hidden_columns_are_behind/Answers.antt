use Rattle.derived_columns.proofs.HiddenLaws as laws
use Rattle.derived_columns.proofs.laws.hidden_columns_are_behind.Goals as goal

pub returns : goal.returns
returns c = laws.hidden_columns_are_behind
