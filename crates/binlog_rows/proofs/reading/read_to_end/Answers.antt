use Rattle.std.proofs.Common.{◌∙◌, ◌≡◌, ◌-◌, ◌+◌, ◌<◌, length, arith}
use Rattle.std.proofs.lemmas.Bool.Decides.{nat_tests}
use Rattle.binlog_rows.proofs.ReadWalks.{rows_ended, rows_none, rows_on, rows_done}
use Rattle.binlog_rows.proofs.reading.read_to_end.Goals as goal

pub returns-then-is_empty : goal.returns-then-is_empty
returns-then-is_empty c =
    let none : length c.loop-count.rest.now ≡ 0 = grind (arith, nat_tests) in
    rows_ended (length c.args.bytes.now - c.loop-count.count) c.loop-count.rows.items c.args.first.now c.args.second.now
    c.loop-count.rest.now none
    ∙ c.loop-count.invariant

pub returns-in_default : goal.returns-in_default
returns-in_default c =
    let some : 0 < length c.loop-count.rest.now = grind (arith, nat_tests) in
    rows_none (length c.args.bytes.now - c.loop-count.count) (length c.args.bytes.now - (c.loop-count.count + 1))
    c.loop-count.rows.items c.read_row.new.rows.items c.args.first.now c.args.second.now c.loop-count.rest.now (omega arith) some
    (rw c.in_default.is at c.in_ok-behind.ensures)
    ∙ c.loop-count.invariant

pub loop-count-preserved : goal.loop-count-preserved
loop-count-preserved c =
    let some : 0 < length c.loop-count.rest.now = grind (arith, nat_tests) in
    rows_on (length c.args.bytes.now - c.loop-count.count) (length c.args.bytes.now - (c.loop-count.count + 1))
    c.loop-count.rows.items c.read_row.new.rows.items c.args.first.now c.args.second.now c.loop-count.rest.now c.in-Some.behind.now
    (omega arith) some (rw c.in-Some.is at c.in_ok-behind.ensures)
    ∙ c.loop-count.invariant

pub returns : goal.returns
returns c =
    rows_done (length c.args.bytes.now - c.loop-count.count) c.loop-count.rows.items c.args.first.now c.args.second.now
    c.loop-count.rest.now c.is_empty-2.result (omega arith) c.is_empty-2.ensures
    ∙ c.loop-count.invariant
