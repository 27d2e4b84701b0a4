use Rattle.std.proofs.Common.{◌+◌, List, [], ◌∷◌, take, sym, subst}
use Rattle.std.specs.FinMap as map
use Rattle.rows.specs.declared.change.Key.{Key}
use Rattle.rows.specs.Keys.{values_in, unique_keys}
use Rattle.rows.specs.Making.{IsPut}
use Rattle.rows.specs.Order.{key_cmp}
use Rattle.rows.proofs.Placed.{put_more, extends_more, uniques_taken}
use Rattle.rows.proofs.placing.push_under_each.Goals as goal

pub loop-i-preserved : goal.loop-i-preserved
loop-i-preserved c =
    let name = c.args.table.now.name in
    let row = c.args.row.now in
    let primary : Key = record { table = name; index = 0; values = values_in c.args.table.now.primary row } in
    let uniques = c.as_slice-uniques.result.now in
    let old = map.from_entries {R = key_cmp} c.args.carriers.now.entries in
    let now = map.from_entries {R = key_cmp} c.loop-i.carriers.entries in
    let new = map.from_entries {R = key_cmp} c.push_under_unique.new.carriers.entries in
    let done = unique_keys name 1 (take c.loop-i.i uniques) row in
    let more = unique_keys name (c.loop-i.i + 1) (c.index-uniques-i.result ∷ []) row in
    let taken = uniques_taken name c.loop-i.i uniques c.index-uniques-i.result row c.loop-i-test.true c.index-uniques-i.is in (
      subst (λ (ks : List Key). IsPut (primary ∷ ks) row old new) (sym taken)
          (put_more (primary ∷ done) more row old now new c.loop-i.invariant.0 (c.push_under_unique.ensures.put c.if-not-push_under_unique.false)),
      extends_more c.args.carriers.now.entries c.loop-i.carriers.entries c.push_under_unique.new.carriers.entries c.loop-i.invariant.1 c.push_under_unique.ensures.after,
    )
