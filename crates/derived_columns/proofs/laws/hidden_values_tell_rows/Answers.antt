use Rattle.derived_columns.proofs.KeyLaws as laws
use Rattle.derived_columns.proofs.laws.hidden_values_tell_rows.Goals as goal

pub returns : goal.returns
returns c = laws.hidden_values_tell_rows
