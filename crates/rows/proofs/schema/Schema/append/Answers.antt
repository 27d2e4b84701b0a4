use Rattle.std.proofs.Common.{sym, ap, subst, ◌≡◌, ◌++◌, ◌∷◌, [], List, ◌∙◌}
use Rattle.rows.specs.declared.schema.Table.{Table}
use Rattle.rows.specs.Tables.{table_fault, table_names, AreTables}
use Rattle.rows.proofs.TableLemmas.{table_added, not_taken}
use Rattle.rows.proofs.TableNames.{name_added}
use Rattle.rows.proofs.schema.Schema.append.Goals as goal

pub invariant_of-self-2 : goal.invariant_of-self-2
invariant_of-self-2 c =
    let tables = c.self.inside.tables.items in
    let whole : c.push_reserved.new.self.items ≡ tables ++ c.args.table ∷ [] = c.push_reserved.ensures.items ∙ ap (λ (l : List Table). l ++ c.args.table ∷ []) c.reserve.ensures.items in
    let none = ap (λ ts. table_fault ts c.args.table) c.self.view_is ∙ c.requires in (
      subst AreTables (sym whole) (table_added tables c.args.table c.self.invariant.0 none),
      name_added c.self.inside.names.entries c.open.new.self.entries tables c.args.table c.in_ok-name.name tt c.self.invariant.1 (not_taken tables c.args.table none) c.in_ok-name.ensures.cases c.in_ok-open.ensures.entries
          ∙ ap table_names (sym whole),
    )
