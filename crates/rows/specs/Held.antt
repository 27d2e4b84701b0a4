-- What is held in one of two forms, whichever it is.
use Rattle.std.specs.Prelude.{List, [], ◌∷◌}
use Rattle.rows.specs.declared.change.Change.{Change}
use Rattle.rows.specs.declared.change.ChangeList.{ChangeList}
use Rattle.rows.specs.declared.change.ChangeList.TheVariants.{Single, Many}

-- the changes of a transaction
abbrev pub listed_changes : ChangeList → List Change
listed_changes (Single change) = change ∷ []
listed_changes (Many changes) = changes.items
