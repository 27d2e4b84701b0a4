use Rattle.std.proofs.Common.{◌≡◌, length, ap, sym, ◌∙◌}
use Rattle.lemmas.proofs.Numbers.{equal_numbers}
use Rattle.derived_columns.proofs.HiddenLaws.{without_columns}
use Rattle.derived_columns.proofs.derivation.Derivation.derive_entries.Goals as goal

pub returns-then-is_empty-clause-found : goal.returns-then-is_empty-clause-found
returns-then-is_empty-clause-found c =
    let none : length c.columns.result.now ≡ 0 = equal_numbers _ _ (sym c.is_empty.ensures ∙ c.if-is_empty.true) in
    without_columns c.args.self.now c.args.entries.items (ap length (sym c.columns.ensures) ∙ none)
