use Rattle.std.proofs.Common.{◌+◌, Some, sym, ap, ◌∙◌, arith}
use Rattle.std.proofs.lemmas.List.{take_rest}
use Rattle.binlog_bundle.proofs.Fronts.{nowhere, at_first}
use Rattle.binlog_bundle.proofs.comparison_words.cut_at.Goals as goal

pub returns-in-Some-clause-front : goal.returns-in-Some-clause-front
returns-in-Some-clause-front c =
    let found = at_first c.args.byte c.args.text.now c.in-Some.at c.in-Some.ensures.0.high (λ k lt h. c.in-Some.ensures.0.before k (omega arith) lt h) c.in-Some.ensures.1 in
    sym found.0

pub returns-in-Some-clause-behind : goal.returns-in-Some-clause-behind
returns-in-Some-clause-behind c =
    let found = at_first c.args.byte c.args.text.now c.in-Some.at c.in-Some.ensures.0.high (λ k lt h. c.in-Some.ensures.0.before k (omega arith) lt h) c.in-Some.ensures.1 in
    ap Some (take_rest c.args.text.now (c.in-Some.at + 1)) ∙ sym found.1

pub returns-in-None-clause-front : goal.returns-in-None-clause-front
returns-in-None-clause-front c = let found = nowhere c.args.byte c.args.text.now (λ k lt h. c.in-None.ensures k (omega arith) lt h) in sym found.0

pub returns-in-None-clause-behind : goal.returns-in-None-clause-behind
returns-in-None-clause-behind c = let found = nowhere c.args.byte c.args.text.now (λ k lt h. c.in-None.ensures k (omega arith) lt h) in sym found.1
