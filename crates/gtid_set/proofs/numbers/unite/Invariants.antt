use Rattle.std.proofs.Common.{length, ◌≡◌, ◌+◌, true, ◌||◌}
use Rattle.std.specs.List.{list_all}
use Rattle.gtid_text.specs.declared.Gtid.{Gtid}
use Rattle.gtid_set.specs.Numbers.{all_numbered}
use Rattle.gtid_set.specs.Spans.{is_merged, has}
use Rattle.gtid_set.specs.Sweep.{is_sorted, all_start_by}
use Rattle.gtid_set.proofs.numbers.unite.Given as goal

abbrev pub invariant-loop-numbers : goal.invariant-loop-numbers
invariant-loop-numbers l = record {
  merged : is_merged (all_numbered l.out.items) ≡ true;
  left : is_sorted (all_numbered l.left) ≡ true;
  right : is_sorted (all_numbered l.right) ≡ true;
  left_order : list_all (all_start_by (all_numbered l.out.items)) (all_numbered l.left) ≡ true;
  right_order : list_all (all_start_by (all_numbered l.out.items)) (all_numbered l.right) ≡ true;
  has : (q : Gtid) → (has (all_numbered l.out.items) q || (has (all_numbered l.left) q || has (all_numbered l.right) q)) ≡ (has (all_numbered l.fn.left) q || has (all_numbered l.fn.right) q);
}

abbrev pub decreases-loop-numbers : goal.decreases-loop-numbers
decreases-loop-numbers l = length (all_numbered l.left) + length (all_numbered l.right)
