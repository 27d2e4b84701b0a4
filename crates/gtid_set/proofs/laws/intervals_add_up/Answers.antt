use Rattle.std.specs.FinSet as set
use Rattle.gtid_set.specs.Edges.{edges}
use Rattle.gtid_set.proofs.EdgeLemmas.{contains-edges, len-edges, union_edges, difference_edges, intersection_edges, left_own, right_own, union_few, difference_few, intersection_few, insert_few}
use Rattle.gtid_set.proofs.laws.intervals_add_up.Goals as goal

pub returns : goal.returns
returns c = record {
  edges = contains-edges;
  twice = len-edges;
  of_union = λ a b. union_edges (set.union (edges a) (edges b)) a b (left_own a b) (right_own a b);
  of_difference = λ a b. difference_edges (set.union (edges a) (edges b)) a b (left_own a b) (right_own a b);
  of_intersection = λ a b. intersection_edges (set.union (edges a) (edges b)) a b (left_own a b) (right_own a b);
  union = union_few;
  difference = difference_few;
  intersection = intersection_few;
  insert = insert_few;
}
