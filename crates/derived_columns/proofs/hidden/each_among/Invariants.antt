use Rattle.std.proofs.Common.{◌≡◌, drop}
use Rattle.derived_columns.specs.Images.{hidden_values}
use Rattle.derived_columns.proofs.Each.{after}
use Rattle.derived_columns.proofs.hidden.each_among.Given as goal

abbrev pub invariant-loop-column : goal.invariant-loop-column
invariant-loop-column l = after l.hidden.items (hidden_values (drop l.column-index l.columns) l.image) ≡ hidden_values l.columns l.image
