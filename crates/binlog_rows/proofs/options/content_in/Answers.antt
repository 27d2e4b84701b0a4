use Rattle.std.proofs.Common.{◌∙◌, ◌≡◌, ◌-◌, ◌+◌, length, true, false, nat_eq, arith}
use Rattle.std.proofs.lemmas.Bool.Decides.{nat_tests}
use Rattle.binlog_rows.proofs.OptionWalks.{field_none, field_found, field_other, field_end}
use Rattle.binlog_rows.specs.Options.{field_view}
use Rattle.binlog_rows.proofs.options.content_in.Goals as goal

pub returns-in_default : goal.returns-in_default
returns-in_default c =
    field_none c.args.kind (length c.args.bytes.now - c.loop-count.count) (length c.args.bytes.now - (c.loop-count.count + 1))
    c.loop-count.rest.now (omega arith) c.in_default.ensures
    ∙ c.loop-count.invariant

pub returns-then-field-kind : goal.returns-then-field-kind
returns-then-field-kind c =
    let one : nat_eq c.in-Some.field.kind c.args.kind ≡ true = grind (arith, nat_tests) in
    field_found c.args.kind (length c.args.bytes.now - c.loop-count.count) (length c.args.bytes.now - (c.loop-count.count + 1))
    c.loop-count.rest.now (field_view c.in-Some.field) (omega arith) c.in-Some.ensures one
    ∙ c.loop-count.invariant

pub loop-count-preserved : goal.loop-count-preserved
loop-count-preserved c =
    let other : nat_eq c.in-Some.field.kind c.args.kind ≡ false = grind (arith, nat_tests) in
    field_other c.args.kind (length c.args.bytes.now - c.loop-count.count) (length c.args.bytes.now - (c.loop-count.count + 1))
    c.loop-count.rest.now (field_view c.in-Some.field) (omega arith) c.in-Some.ensures other
    ∙ c.loop-count.invariant

pub returns : goal.returns
returns c = field_end c.args.kind (length c.args.bytes.now - c.loop-count.count) c.loop-count.rest.now (omega arith) ∙ c.loop-count.invariant
