use Rattle.std.proofs.Common.{arith, sym, ◌∙◌}
use Rattle.txn_journal.proofs.SpansWithin.{number_missing, next_there, all_there}
use Rattle.txn_journal.proofs.statements.has_numbers.Goals as goal

pub returns-then-not-contains : goal.returns-then-not-contains
returns-then-not-contains c =
    sym (number_missing c.args.known.now c.args.span.now c.loop-number.number (omega arith) (omega arith) (sym c.contains.ensures ∙ c.if-not-contains.true))

pub loop-number-preserved : goal.loop-number-preserved
loop-number-preserved c = next_there c.args.known.now c.args.span.now c.loop-number.number c.loop-number.invariant (sym c.contains.ensures ∙ c.if-not-contains.false)

pub returns : goal.returns
returns c = sym (all_there c.args.known.now c.args.span.now c.loop-number.number c.loop-number.invariant (omega arith))

pub returns-else-not-contains : goal.returns-else-not-contains
returns-else-not-contains c =
    let there = next_there c.args.known.now c.args.span.now c.loop-number.number c.loop-number.invariant (sym c.contains.ensures ∙ c.if-not-contains.false) in
    sym (all_there c.args.known.now c.args.span.now _ there (omega arith))
