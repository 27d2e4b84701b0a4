use Rattle.gtid_set.proofs.LawLemmas.{union_upper, union_least}
use Rattle.gtid_set.proofs.laws.union_is_least.Goals as goal

pub returns : goal.returns
returns c = record { upper = union_upper; least = union_least }
