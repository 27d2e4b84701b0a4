use Rattle.std.proofs.Common.{◌∙◌, ◌≡◌, ◌++◌, ◌+◌, ◌<◌, length, ap, option_map, drop, arith}
use Rattle.std.proofs.lemmas.Bool.Decides.{nat_tests}
use Rattle.binlog_rows.specs.Columns.{columns_from}
use Rattle.binlog_rows.proofs.Walks.{columns_end, columns_on, columns_all, columns_left}
use Rattle.binlog_rows.proofs.columns.columns_from.Goals as goal

pub returns-in_default : goal.returns-in_default
returns-in_default c =
    columns_end c.loop-kind.columns.items c.args.kinds.now c.loop-kind.rest.now c.loop-kind.kind-index (omega arith) c.in_default.ensures
    ∙ c.loop-kind.invariant

pub loop-kind-preserved : goal.loop-kind-preserved
loop-kind-preserved c =
    let next = columns_from (drop (c.loop-kind.kind-index + 1) c.args.kinds.now) c.in-Some.behind.now in
    ap (λ items. option_map (λ columns. items ++ columns) next) c.in_ok-push.ensures.items
    ∙ columns_on c.loop-kind.columns.items c.args.kinds.now c.loop-kind.rest.now c.loop-kind.kind-index c.in-Some.column
    c.in-Some.behind.now (omega arith) c.in-Some.ensures
    ∙ c.loop-kind.invariant

pub returns-then-is_empty : goal.returns-then-is_empty
returns-then-is_empty c =
    let none : length c.loop-kind.rest.now ≡ 0 = grind (arith, nat_tests) in
    columns_all c.loop-kind.columns.items c.args.kinds.now c.loop-kind.rest.now c.loop-kind.kind-index (omega arith) none
    ∙ c.loop-kind.invariant

pub returns-else-is_empty : goal.returns-else-is_empty
returns-else-is_empty c =
    let some : 0 < length c.loop-kind.rest.now = grind (arith, nat_tests) in
    columns_left c.loop-kind.columns.items c.args.kinds.now c.loop-kind.rest.now c.loop-kind.kind-index (omega arith) some
    ∙ c.loop-kind.invariant
