use Rattle.std.proofs.Common.{[], ◌∷◌}
use Rattle.rows.specs.Keys.{unique_keys}
use Rattle.rows.specs.Steps.{primary_key, rows_in}
use Rattle.rows.proofs.InPlaceLemmas.{placed_more, placed_one}
use Rattle.rows.proofs.in_place.put_under_each.Goals as goal

pub returns-clause-placed : goal.returns-clause-placed
returns-clause-placed c = λ placed.
    let table = c.args.table.now in
    let image = c.args.image.now in
    let row = c.args.row.now in
    let old = rows_in c.args.carriers.now.entries in
    let mid = rows_in c.put_under_primary.new.carriers.entries in
    let free = c.if-not-put_under_primary.false in
    placed_more c.args.free (primary_key table image ∷ []) (unique_keys table.name 1 table.uniques image) row old mid (rows_in c.put_under_uniques.new.carriers.entries)
    (placed_one c.args.free (primary_key table image) row old mid c.args.first c.requires.first (c.put_under_primary.ensures.put free) (c.put_under_primary.ensures.over free))
    (c.put_under_uniques.ensures.placed placed)
