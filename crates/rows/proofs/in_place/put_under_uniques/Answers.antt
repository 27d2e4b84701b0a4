use Rattle.std.proofs.Common.{◌+◌, List, [], ◌∷◌, take, sym, subst, ◌∙◌}
use Rattle.rows.specs.declared.change.Key.{Key}
use Rattle.rows.specs.Keys.{unique_keys}
use Rattle.rows.specs.Steps.{IsPlaced, rows_in}
use Rattle.rows.proofs.InPlaceLemmas.{placed_more}
use Rattle.rows.proofs.Placed.{uniques_taken}
use Rattle.rows.proofs.in_place.put_under_uniques.Goals as goal

pub loop-i-preserved : goal.loop-i-preserved
loop-i-preserved c =
    let name = c.args.table.now.name in
    let image = c.args.image.now in
    let row = c.args.row.now in
    let uniques = c.as_slice-uniques.result.now in
    let old = rows_in c.args.carriers.now.entries in
    let new = rows_in c.put_under_unique.new.carriers.entries in
    let done = unique_keys name 1 (take c.loop-i.i uniques) image in
    let more = unique_keys name (c.loop-i.i + 1) (c.index-uniques-i.result ∷ []) image in
    let taken = uniques_taken name c.loop-i.i uniques c.index-uniques-i.result image c.loop-i-test.true c.index-uniques-i.is in (
      subst (λ (ks : List Key). IsPlaced c.args.free ks row old new) (sym taken)
          (placed_more c.args.free done more row old (rows_in c.loop-i.carriers.entries) new c.loop-i.invariant.0 (c.put_under_unique.ensures.placed c.if-not-put_under_unique.false)),
      c.put_under_unique.ensures.back ∙ c.loop-i.invariant.1,
      λ room. c.put_under_unique.ensures.room (c.loop-i.invariant.2 room),
    )
