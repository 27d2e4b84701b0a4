use Rattle.std.proofs.Common.{◌≡◌, ℕ, List, ◌++◌, OnOk, sym, subst, ◌∙◌}
use Rattle.fault_places.specs.Lines.{shorten}
use Rattle.fault_places.proofs.Hiding.{as_it_stands}
use Rattle.fault_places.proofs.hidden_values.put_without_hidden.Goals as goal

pub returns-then-not-tables : goal.returns-then-not-tables
returns-then-not-tables c =
    let none = c.args.tables.now.told in
    subst (λ (t : List ℕ). OnOk c.put_shown.result (c.put_shown.new.out.items ≡ c.args.out.now.items ++ shorten t))
    (as_it_stands c.args.tables.now.schema.now c.args.line.now (sym none ∙ c.if-not-tables.true)) c.put_shown.ensures
