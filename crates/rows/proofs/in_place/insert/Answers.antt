use Rattle.std.proofs.Common.{Option, sym, ap, refl, ◌∙◌}
use Rattle.rows.specs.declared.schema.Table.{Table}
use Rattle.rows.specs.Apply.{insert_row}
use Rattle.rows.specs.Keys.{keys_in, keys_of_row}
use Rattle.rows.specs.Steps.{rows_in}
use Rattle.rows.proofs.Placed.{put_inserted}
use Rattle.rows.proofs.in_place.insert.Goals as goal

pub returns-clause-made : goal.returns-clause-made
returns-clause-made c = λ placed n.
    let put = c.put_under_each.ensures.placed placed in
    ap (λ (t : Option Table). insert_row n (keys_in t c.args.row.now) c.args.row.now (rows_in c.args.carriers.now.entries)) (sym c.in-Some.ensures.found)
    ∙ put_inserted n (keys_of_row c.in-Some.table.now c.args.row.now) c.args.row.now (rows_in c.args.carriers.now.entries) (rows_in c.put_under_each.new.carriers.entries) (put.0, put.1 refl)
