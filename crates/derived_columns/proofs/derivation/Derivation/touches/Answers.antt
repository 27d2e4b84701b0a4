use Rattle.std.proofs.Common.{◌≡◌, List, Ok, subst, sym, ◌∙◌}
use Rattle.derived_columns.specs.declared.column.DerivedColumn.{DerivedColumn}
use Rattle.derived_columns.specs.Entries.{derived_changes}
use Rattle.derived_columns.proofs.Untouched.{untouched}
use Rattle.derived_columns.proofs.derivation.Derivation.touches.Goals as goal

pub returns : goal.returns
returns c none = subst (λ (columns : List DerivedColumn). derived_changes columns c.args.changes.now ≡ Ok c.args.changes.now) c.self.view_is
    (untouched c.self.inside.columns.items c.self.inside.tables c.args.changes.now c.self.invariant (sym c.touches.ensures ∙ none))
