use Rattle.std.proofs.Common.{Option, Ok, sym, ap, ◌∙◌}
use Rattle.rows.specs.declared.schema.Table.{Table}
use Rattle.rows.specs.Keys.{keys_in, keys_of_row}
use Rattle.rows.specs.Making.{update_row}
use Rattle.rows.specs.Steps.{rows_in}
use Rattle.rows.proofs.InPlaceLemmas.{deleted}
use Rattle.rows.proofs.Replacing.{replaced}
use Rattle.rows.proofs.in_place.replace.Goals as goal

pub returns-clause-made : goal.returns-clause-made
returns-clause-made c = λ placed n.
    let table = c.in-Some.table.now in
    let before = c.args.before.now in
    let after = c.args.after.now in
    let old = rows_in c.args.carriers.now.entries in
    ap (λ (t : Option Table). update_row n (keys_in t before) before (keys_in t before) after old) (sym c.in-Some.ensures.found)
    ∙ replaced n (keys_of_row table before) before after old (deleted n table before old (c.put_under_each.ensures.over placed))
    ∙ ap Ok (sym (c.put_under_each.ensures.placed placed).0)
