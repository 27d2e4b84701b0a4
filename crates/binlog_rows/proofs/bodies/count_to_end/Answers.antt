use Rattle.std.proofs.Common.{◌∙◌, ◌≡◌, ◌-◌, ◌+◌, ◌<◌, length, Some, None, ap, arith}
use Rattle.std.proofs.lemmas.Bool.Decides.{nat_tests}
use Rattle.binlog_rows.proofs.Walks.{rows_all, rows_last, rows_step}
use Rattle.binlog_rows.proofs.bodies.count_to_end.Goals as goal

pub returns-then-is_empty : goal.returns-then-is_empty
returns-then-is_empty c =
    let none : length c.loop-count.rest.now ≡ 0 = grind (arith, nat_tests) in
    rows_all (length c.args.bytes.now - c.loop-count.count)
    c.args.first.now c.args.second.now c.loop-count.rest.now c.loop-count.count none
    ∙ c.loop-count.invariant

pub returns-in_default : goal.returns-in_default
returns-in_default c =
    let some : 0 < length c.loop-count.rest.now = grind (arith, nat_tests) in
    rows_step c.loop-count.count (length c.args.bytes.now - c.loop-count.count) (length c.args.bytes.now - (c.loop-count.count + 1))
    c.args.first.now c.args.second.now c.loop-count.rest.now None (omega arith) some c.in_default.ensures
    ∙ c.loop-count.invariant

pub loop-count-preserved : goal.loop-count-preserved
loop-count-preserved c =
    let some : 0 < length c.loop-count.rest.now = grind (arith, nat_tests) in
    rows_step c.loop-count.count (length c.args.bytes.now - c.loop-count.count) (length c.args.bytes.now - (c.loop-count.count + 1))
    c.args.first.now c.args.second.now c.loop-count.rest.now (Some c.in-Some.behind.now) (omega arith) some c.in-Some.ensures
    ∙ c.loop-count.invariant

pub returns-then-is_empty-2 : goal.returns-then-is_empty-2
returns-then-is_empty-2 c =
    let none : length c.loop-count.rest.now ≡ 0 = grind (arith, nat_tests) in
    let all : length c.args.bytes.now ≡ c.loop-count.count = omega arith in
    ap Some all ∙ rows_all (length c.args.bytes.now - c.loop-count.count)
    c.args.first.now c.args.second.now c.loop-count.rest.now c.loop-count.count none
    ∙ c.loop-count.invariant

pub returns-else-is_empty-2 : goal.returns-else-is_empty-2
returns-else-is_empty-2 c =
    let some : 0 < length c.loop-count.rest.now = grind (arith, nat_tests) in
    rows_last c.loop-count.count (length c.args.bytes.now - c.loop-count.count)
    c.args.first.now c.args.second.now c.loop-count.rest.now (omega arith) some
    ∙ c.loop-count.invariant
