use Rattle.std.proofs.Common.{◌≡◌, [], ◌∷◌, Option, Ok, sym, ap, ◌∙◌}
use Rattle.rows.specs.declared.schema.Table.{Table}
use Rattle.rows.specs.Apply.{without_keys, delete_row}
use Rattle.rows.specs.Keys.{keys_in, keys_of_row, unique_keys}
use Rattle.rows.specs.Steps.{primary_key, rows_in}
use Rattle.rows.proofs.InPlaceLemmas.{deleted, without_more}
use Rattle.rows.proofs.in_place.delete.Goals as goal

pub returns-clause-made : goal.returns-clause-made
returns-clause-made c = λ removed n.
    let table = c.in-Some.table.now in
    let row = c.args.row.now in
    let old = rows_in c.args.carriers.now.entries in
    let first = c.if-not-remove_primary.false in
    let gone : rows_in c.remove_uniques.new.carriers.entries ≡ without_keys (keys_of_row table row) old =
    c.remove_uniques.ensures.removed removed ∙ ap (without_keys (unique_keys table.name 1 table.uniques row)) (c.remove_primary.ensures.removed first)
    ∙ without_more (primary_key table row ∷ []) (unique_keys table.name 1 table.uniques row) old in
    ap (λ (t : Option Table). delete_row n (keys_in t row) row old) (sym c.in-Some.ensures.found)
    ∙ deleted n table row old (c.remove_primary.ensures.over first) ∙ ap Ok (sym gone)
