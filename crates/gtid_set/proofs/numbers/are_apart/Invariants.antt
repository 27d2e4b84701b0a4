use Rattle.std.proofs.Common.{length, ◌≡◌, true, false}
use Rattle.gtid_text.specs.declared.Gtid.{Gtid}
use Rattle.gtid_set.specs.Numbers.{all_numbered}
use Rattle.gtid_set.specs.Spans.{is_merged, has}
use Rattle.gtid_set.proofs.numbers.are_apart.Given as goal

abbrev pub invariant-loop-numbers : goal.invariant-loop-numbers
invariant-loop-numbers l = record {
  left : is_merged (all_numbered l.left) ≡ true;
  right : is_merged (all_numbered l.right) ≡ true;
  still : (q : Gtid) → has (all_numbered l.left) q ≡ true → has (all_numbered l.fn.left) q ≡ true;
  same : (q : Gtid) → has (all_numbered l.left) q ≡ true → has (all_numbered l.right) q ≡ has (all_numbered l.fn.right) q;
  done : (q : Gtid) → has (all_numbered l.fn.left) q ≡ true → has (all_numbered l.left) q ≡ false → has (all_numbered l.fn.right) q ≡ false;
}

abbrev pub decreases-loop-numbers : goal.decreases-loop-numbers
decreases-loop-numbers l = length l.left
