use Rattle.std.proofs.Common.{◌+◌, List, [], ◌∷◌, take, sym, ap, ◌∙◌}
use Rattle.rows.specs.declared.change.Key.{Key}
use Rattle.rows.specs.Apply.{without_keys}
use Rattle.rows.specs.Keys.{unique_keys}
use Rattle.rows.specs.Steps.{rows_in}
use Rattle.rows.proofs.InPlaceLemmas.{without_more}
use Rattle.rows.proofs.Placed.{uniques_taken}
use Rattle.rows.proofs.in_place.remove_uniques.Goals as goal

pub loop-i-preserved : goal.loop-i-preserved
loop-i-preserved c =
    let name = c.args.table.now.name in
    let row = c.args.row.now in
    let uniques = c.as_slice-uniques.result.now in
    let old = rows_in c.args.carriers.now.entries in
    let done = unique_keys name 1 (take c.loop-i.i uniques) row in
    let more = unique_keys name (c.loop-i.i + 1) (c.index-uniques-i.result ∷ []) row in
    let taken = uniques_taken name c.loop-i.i uniques c.index-uniques-i.result row c.loop-i-test.true c.index-uniques-i.is in (
      c.remove_unique.ensures.removed c.if-not-remove_unique.false ∙ ap (without_keys more) c.loop-i.invariant.0 ∙ without_more done more old
          ∙ ap (λ (ks : List Key). without_keys ks old) (sym taken),
      c.remove_unique.ensures.back ∙ c.loop-i.invariant.1,
      λ room. c.remove_unique.ensures.room (c.loop-i.invariant.2 room),
    )
