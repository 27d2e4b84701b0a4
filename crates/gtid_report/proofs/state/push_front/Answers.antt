use Rattle.std.proofs.Common.{rules, arith, string_bytes}
use Rattle.gtid_report.proofs.ShownRows.{last_word, next_word}
use Rattle.gtid_report.proofs.state.push_front.Goals as goal

pub loop-column-init : goal.loop-column-init
loop-column-init c = (c.as_str-left.utf8, c.as_str-left.ensures, search rules)

pub returns-in_default : goal.returns-in_default
returns-in_default c =
    let last = last_word c.loop-column._column c.args.count c.args.row.now c.loop-column.left.now (string_bytes c.args.out.now) c.keeps_rules.ensures c.loop-column-test.true c.requires c.loop-column.invariant.1 c.in_default.ensures.cases in
    search rules

pub loop-column-preserved : goal.loop-column-preserved
loop-column-preserved c =
    let next = next_word c.loop-column._column c.args.row.now c.loop-column.left.now (string_bytes c.args.out.now) (c.in-Some.word, c.in-Some.more) c.keeps_rules.ensures (omega (arith, c.loop-column-test.true, c.requires)) c.loop-column.invariant.1 c.in-Some.ensures.cases in
    (search rules, next.1, search rules)

pub returns : goal.returns
returns c = search rules
