use Rattle.std.proofs.Common.{ap, ◌||◌}
use Rattle.gtid_set.specs.Numbers.{numbered, all_numbered}
use Rattle.gtid_set.specs.Spans.{has}
use Rattle.gtid_set.specs.Sweep.{all_start_by, within}
use Rattle.gtid_set.proofs.SpanLemmas.{nothing, takes_all, starts_later, moved}
use Rattle.gtid_set.proofs.numbers.unite.Goals as goal

pub loop-numbers-init : goal.loop-numbers-init
loop-numbers-init c =
    let none = nothing (all_numbered c.clear.new.self.items) (ap all_numbered c.clear.ensures.items) in
    let left = all_numbered c.args.left in
    let right = all_numbered c.args.right in
    record {
      merged = none.merged;
      left = c.requires.left;
      right = c.requires.right;
      left_order = none.starts left;
      right_order = none.starts right;
      has = λ q. ap (λ b. b || (has left q || has right q)) (none.none q);
    }

pub join-requires-clause-order : goal.join-requires-clause-order
join-requires-clause-order c =
    let takes = c.in-Some.ensures.some in
    (takes_all (all_numbered c.loop-numbers.left) (all_numbered c.loop-numbers.right) (numbered c.in-Some.numbers) (all_numbered c.take_first.new.left) (all_numbered c.take_first.new.right) takes
    (all_start_by (all_numbered c.loop-numbers.out.items)) c.loop-numbers.invariant.left_order c.loop-numbers.invariant.right_order).0

pub loop-numbers-preserved : goal.loop-numbers-preserved
loop-numbers-preserved c =
    let takes = c.in-Some.ensures.some in
    let joins = c.in_ok-join.ensures in
    let out = all_numbered c.loop-numbers.out.items in
    let new = all_numbered c.join.new.out.items in
    let span = numbered c.in-Some.numbers in
    let left = all_numbered c.loop-numbers.left in
    let right = all_numbered c.loop-numbers.right in
    let more_left = all_numbered c.take_first.new.left in
    let more_right = all_numbered c.take_first.new.right in
    record {
      merged = joins.merged;
      left = takes.left_rises;
      right = takes.right_rises;
      left_order = starts_later new span more_left joins.order takes.left_later;
      right_order = starts_later new span more_right joins.order takes.right_later;
      has = λ q. moved (has out q) (has new q) (within span q) (has left q) (has right q) (has more_left q) (has more_right q) (has (all_numbered c.args.left) q || has (all_numbered c.args.right) q)
          (joins.has q) (takes.any (λ s. within s q)) (c.loop-numbers.invariant.has q);
    }
