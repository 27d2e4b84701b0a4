use Rattle.std.proofs.Common.{true, false}
use Rattle.std.proofs.lemmas.Bool.Decides.{when_true, when_false}
use Rattle.gtid_set.specs.Spans.{has}
use Rattle.gtid_set.specs.Sweep.{AreApart, HaveCommon}
use Rattle.gtid_set.specs.Numbers.{all_numbered}
use Rattle.gtid_set.proofs.CombineLemmas.{next_shorter, taken_merged}
use Rattle.gtid_set.proofs.CompareLemmas.{passed_more, passed_found}
use Rattle.gtid_set.proofs.combine.are_apart.Goals as goal

pub are_apart-requires-clause-left : goal.are_apart-requires-clause-left
are_apart-requires-clause-left c = (taken_merged c.loop-id.left c.in-Some.id c.take-mine.result c.take-mine.new.self c.take-mine.ensures c.loop-id.invariant.left_merged).0

pub are_apart-requires-clause-right : goal.are_apart-requires-clause-right
are_apart-requires-clause-right c = (taken_merged c.loop-id.right c.in-Some.id c.take-theirs.result c.take-theirs.new.self c.take-theirs.ensures c.loop-id.invariant.right_merged).0

pub loop-id-preserved : goal.loop-id-preserved
loop-id-preserved c =
    passed_more false c.args.left c.args.right c.loop-id.left c.loop-id.right c.take-mine.new.self c.take-theirs.new.self c.in-Some.id c.take-mine.result c.take-theirs.result c.loop-id.invariant c.take-mine.ensures c.take-theirs.ensures
    (when_true (AreApart (has (all_numbered c.take-mine.result)) (has (all_numbered c.take-theirs.result))) (HaveCommon (has (all_numbered c.take-mine.result)) (has (all_numbered c.take-theirs.result))) c.if-not-are_apart.false c.are_apart.ensures)

pub returns-then-not-are_apart : goal.returns-then-not-are_apart
returns-then-not-are_apart c =
    let found = when_false (AreApart (has (all_numbered c.take-mine.result)) (has (all_numbered c.take-theirs.result))) (HaveCommon (has (all_numbered c.take-mine.result)) (has (all_numbered c.take-theirs.result))) c.if-not-are_apart.true c.are_apart.ensures in
    passed_found false true c.args.left c.args.right c.loop-id.left c.loop-id.right c.take-mine.new.self c.take-theirs.new.self c.in-Some.id c.take-mine.result c.take-theirs.result c.loop-id.invariant c.take-mine.ensures c.take-theirs.ensures
    found.0 found.1 found.2

pub loop-id-smaller : goal.loop-id-smaller
loop-id-smaller c = next_shorter c.loop-id.left c.loop-id.right c.take-mine.new.self c.take-theirs.new.self c.in-Some.id c.take-mine.result c.take-theirs.result c.in-Some.ensures.some c.take-mine.ensures c.take-theirs.ensures
