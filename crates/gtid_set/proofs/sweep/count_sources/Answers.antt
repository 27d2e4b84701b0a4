use Rattle.std.proofs.Common.{◌+◌, length, arith, refl}
use Rattle.gtid_set.proofs.SourceLemmas.{count_end, count_step, bound_step, all_from_first, first_from}
use Rattle.gtid_set.proofs.sweep.count_sources.Goals as goal

pub loop-span-init : goal.loop-span-init
loop-span-init c = record { left = c.requires.left; right = c.requires.right; left_from = refl; right_from = refl; bound = omega arith; count = omega arith }

pub with_new-count-requires : goal.with_new-count-requires
with_new-count-requires c =
    let shorter = c.in-Some.ensures.some.shorter in
    let bound = c.loop-span.invariant.bound in
    let small = c.requires.small in
    omega (arith, shorter, bound, small)

pub loop-span-preserved : goal.loop-span-preserved
loop-span-preserved c =
    let takes = c.in-Some.ensures.some in
    let inv = c.loop-span.invariant in
    let left = c.loop-span.left in
    let right = c.loop-span.right in
    let x = c.in-Some.span in
    let l = c.take_first.new.left in
    let r = c.take_first.new.right in
    record {
      left = takes.left_rises;
      right = takes.right_rises;
      left_from = all_from_first x l takes.left_later;
      right_from = all_from_first x r takes.right_later;
      bound = bound_step c.loop-span.last x.source c.loop-span.count c.with_new-count.result (length l + length r) (length left + length right) _ takes.shorter c.with_new-count.ensures inv.bound;
      count = count_step c.loop-span.last left right x l r c.loop-span.count c.with_new-count.result _ takes (first_from c.loop-span.last left right x l r takes inv.left_from inv.right_from) c.with_new-count.ensures inv.count;
    }

pub returns : goal.returns
returns c =
    let none = c.in_default.ensures.none refl in
    count_end c.loop-span.last c.loop-span.left c.loop-span.right c.loop-span.count _ none.0 none.1 c.loop-span.invariant.count
