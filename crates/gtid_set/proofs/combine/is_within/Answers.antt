use Rattle.std.proofs.Common.{true, false}
use Rattle.std.proofs.lemmas.Bool.Decides.{when_true, when_false}
use Rattle.gtid_set.specs.Spans.{has}
use Rattle.gtid_set.specs.Sweep.{IsWithin, IsNotWithin}
use Rattle.gtid_set.specs.Numbers.{all_numbered}
use Rattle.gtid_set.proofs.CombineLemmas.{next_shorter, taken_merged}
use Rattle.gtid_set.proofs.CompareLemmas.{passed_more, passed_found}
use Rattle.gtid_set.proofs.combine.is_within.Goals as goal

pub is_within-requires-clause-left : goal.is_within-requires-clause-left
is_within-requires-clause-left c = (taken_merged c.loop-id.left c.in-Some.id c.take-mine.result c.take-mine.new.self c.take-mine.ensures c.loop-id.invariant.left_merged).0

pub is_within-requires-clause-right : goal.is_within-requires-clause-right
is_within-requires-clause-right c = (taken_merged c.loop-id.right c.in-Some.id c.take-theirs.result c.take-theirs.new.self c.take-theirs.ensures c.loop-id.invariant.right_merged).0

pub loop-id-preserved : goal.loop-id-preserved
loop-id-preserved c =
    passed_more true c.args.left c.args.right c.loop-id.left c.loop-id.right c.take-mine.new.self c.take-theirs.new.self c.in-Some.id c.take-mine.result c.take-theirs.result c.loop-id.invariant c.take-mine.ensures c.take-theirs.ensures
    (when_true (IsWithin (has (all_numbered c.take-mine.result)) (has (all_numbered c.take-theirs.result))) (IsNotWithin (has (all_numbered c.take-mine.result)) (has (all_numbered c.take-theirs.result))) c.if-not-is_within.false c.is_within.ensures)

pub returns-then-not-is_within : goal.returns-then-not-is_within
returns-then-not-is_within c =
    let found = when_false (IsWithin (has (all_numbered c.take-mine.result)) (has (all_numbered c.take-theirs.result))) (IsNotWithin (has (all_numbered c.take-mine.result)) (has (all_numbered c.take-theirs.result))) c.if-not-is_within.true c.is_within.ensures in
    passed_found true false c.args.left c.args.right c.loop-id.left c.loop-id.right c.take-mine.new.self c.take-theirs.new.self c.in-Some.id c.take-mine.result c.take-theirs.result c.loop-id.invariant c.take-mine.ensures c.take-theirs.ensures
    found.0 found.1 found.2

pub loop-id-smaller : goal.loop-id-smaller
loop-id-smaller c = next_shorter c.loop-id.left c.loop-id.right c.take-mine.new.self c.take-theirs.new.self c.in-Some.id c.take-mine.result c.take-theirs.result c.in-Some.ensures.some c.take-mine.ensures c.take-theirs.ensures
