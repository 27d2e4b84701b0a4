use Rattle.std.proofs.Common.{rules, ◌<◌, ◌≤◌, inl, inr, arith}
use Rattle.gtid_set.proofs.BySourceLemmas.{from_more}
use Rattle.gtid_set.proofs.by_source.next_source.Goals as goal

pub returns-then-lt-clause-some : goal.returns-then-lt-clause-some
returns-then-lt-clause-some c =
    let left = c.in-Some.ensures.some in
    let right = c.in-Some-first.ensures.some in
    let lt : c.in-Some-first.other < c.in-Some.id = search rules in
    record { begins = inr right.begins; left_from = from_more c.in-Some-first.other c.in-Some.id c.args.left.now (omega (arith, lt)) left.from; right_from = right.from }

pub returns-clause-some : goal.returns-clause-some
returns-clause-some c =
    let left = c.in-Some.ensures.some in
    let right = c.in-Some-first.ensures.some in
    let le : c.in-Some.id ≤ c.in-Some-first.other = search rules in
    record { begins = inl left.begins; left_from = left.from; right_from = from_more c.in-Some.id c.in-Some-first.other c.args.right.now le right.from }
