use Rattle.std.proofs.Common.{arith}
use Rattle.binlog_bundle.proofs.Saying.{name_found, no_blank}
use Rattle.binlog_bundle.proofs.executed.behind_name.Goals as goal

pub returns-in_default-memchr : goal.returns-in_default-memchr
returns-in_default-memchr c = no_blank c.args.line.now c.in-Some.rest.now c.in-Some.ensures (λ k lt h. c.in_default-memchr.ensures k (omega arith) lt h)

pub returns : goal.returns
returns c =
    name_found c.args.line.now c.in-Some.rest.now c.split_at.result.1.now c.in-Some-memchr.at c.in-Some.ensures c.in-Some-memchr.ensures.0.high
    (λ k lt h. c.in-Some-memchr.ensures.0.before k (omega arith) lt h) c.in-Some-memchr.ensures.1 c.split_at.ensures.back
