use Rattle.std.proofs.Common.{arith}
use Rattle.txn_journal.proofs.LineCuts.{one_line, cut_found}
use Rattle.binlog_entries.proofs.reader.cut_line.Goals as goal

pub returns-in_default-clause-none : goal.returns-in_default-clause-none
returns-in_default-clause-none c = one_line c.args.text.now (λ k lt h. c.in_default.ensures k (omega arith) lt h)

pub returns-in-len1-up-clause-found : goal.returns-in-len1-up-clause-found
returns-in-len1-up-clause-found c =
    cut_found c.args.text.now c.in-Some.at _ _ c.in-Some.ensures.0.high (λ k lt h. c.in-Some.ensures.0.before k (omega arith) lt h) c.in-Some.ensures.1 c.split_at.ensures.front c.split_at.ensures.back
