use Rattle.std.proofs.Common.{◌∙◌, ◌≡◌, ◌<◌, length, arith}
use Rattle.std.proofs.lemmas.Bool.Decides.{nat_tests}
use Rattle.binlog_rows.proofs.CollationWalks.{column_none, column_on, columns_ended, bytes_left, index_within}
use Rattle.binlog_rows.proofs.comparisons.varied_from.Goals as goal

pub returns-in_default : goal.returns-in_default
returns-in_default c =
    column_none c.args.default c.loop-place.index c.loop-place.place c.args.columns.now _ c.loop-place.places.items c.loop-place.rest.now (omega arith)
    c.in_default.ensures
    ∙ c.loop-place.invariant.varied

pub loop-place-preserved : goal.loop-place-preserved
loop-place-preserved c =
    record {
      within = index_within _ c.loop-place.index c.index_behind-index.result c.loop-place.place c.index_behind-index.ensures c.loop-place.invariant.within;
      varied =
          column_on c.args.default c.loop-place.index c.index_behind-index.result c.loop-place.place c.args.columns.now _ c.loop-place.places.items
          c.put_place.new.places.items c.loop-place.rest.now c.in-Some.behind.now c.in-Some.comparison (omega arith) c.in-Some.ensures
          c.in_ok-put_place.ensures c.index_behind-index.ensures
          ∙ c.loop-place.invariant.varied;
    }

pub returns : goal.returns
returns c =
    let none : length c.loop-place.rest.now ≡ 0 = grind (arith, nat_tests) in
    columns_ended c.args.default c.loop-place.index c.loop-place.place c.args.columns.now c.loop-place.places.items c.loop-place.rest.now (omega arith) none
    ∙ c.loop-place.invariant.varied

pub returns-then-not-is_empty : goal.returns-then-not-is_empty
returns-then-not-is_empty c =
    let some : 0 < length c.loop-place.rest.now = grind (arith, nat_tests) in
    bytes_left c.args.default c.loop-place.index c.loop-place.place c.args.columns.now c.loop-place.places.items c.loop-place.rest.now (omega arith) some
    ∙ c.loop-place.invariant.varied
