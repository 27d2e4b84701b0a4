use Rattle.std.proofs.Common.{length, ◌≡◌, ◌++◌}
use Rattle.gtid_set.specs.Numbers.{all_numbered}
use Rattle.gtid_set.proofs.numbers.push_all.Given as goal

abbrev pub invariant-loop-numbers : goal.invariant-loop-numbers
invariant-loop-numbers l = all_numbered l.out.items ++ all_numbered l.rest ≡ all_numbered l.fn.out.items ++ all_numbered l.fn.walk

abbrev pub decreases-loop-numbers : goal.decreases-loop-numbers
decreases-loop-numbers l = length l.rest
