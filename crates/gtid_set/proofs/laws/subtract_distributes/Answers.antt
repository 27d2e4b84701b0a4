use Rattle.gtid_set.proofs.LawLemmas.{union_less, less_union, less_both}
use Rattle.gtid_set.proofs.laws.subtract_distributes.Goals as goal

pub returns : goal.returns
returns c = record { of_union = union_less; by_union = less_union; by_intersection = less_both }
