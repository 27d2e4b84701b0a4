use Rattle.gtid_set.proofs.LawLemmas.{both_union, both_less}
use Rattle.gtid_set.proofs.laws.intersect_distributes.Goals as goal

pub returns : goal.returns
returns c = record { of_union = both_union; of_difference = both_less }
