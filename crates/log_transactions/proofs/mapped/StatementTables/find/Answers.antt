use Rattle.std.proofs.Common.{◌≡◌, List, get_or, length, ltb, IfSome, ap, subst, ◌∙◌}
use Rattle.log_transactions.specs.Tables.{find_table}
use Rattle.log_transactions.specs.declared.mapped.StatementTable.{StatementTable}
use Rattle.log_transactions.proofs.PlaceLaws.{find_none, find_some, read_at}
use Rattle.log_transactions.proofs.mapped.StatementTables.find.Goals as goal

pub returns-in-None : goal.returns-in-None
returns-in-None c =
    let name = c.args.name.now in
    find_none name c.self.inside.list.items c.self.inside.places c.self.invariant c.in-None.ensures.value ∙ ap (find_table name) c.self.view_is

pub returns-in-Some : goal.returns-in-Some
returns-in-Some c =
    let name = c.args.name.now in
    let found = find_some name c.self.inside.list.items c.self.inside.places _ c.self.invariant c.in-Some.ensures.value in
    read_at c.self.inside.list.items c.in-Some.place.now c.get-in-Some.result (c.get-in-Some.ensures.lookup.0 ∙ ap (λ (ts : List StatementTable). ltb c.in-Some.place.now (length ts)) c.deref.ensures.value)
    (subst (λ (ts : List StatementTable). IfSome c.get-in-Some.result (λ t. t.now ≡ get_or ts c.in-Some.place.now t.now)) c.deref.ensures.value c.get-in-Some.ensures.lookup.1)
    ∙ found
    ∙ ap (find_table name) c.self.view_is
