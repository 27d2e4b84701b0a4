-- A list of results that are made one after another.
use Rattle.std.proofs.Common.{List, ◌++◌, Result}
use Rattle.derived_columns.specs.Each.{with_it}

-- what is done stands before what is left
abbrev pub after : {B E : Type 0} → List B → Result (List B) E → Result (List B) E
after done left = with_it (λ rest. done ++ rest) left
