use Rattle.gtid_set.proofs.LawLemmas.{union_swap, union_group, union_itself}
use Rattle.gtid_set.proofs.laws.union_is_free.Goals as goal

pub returns : goal.returns
returns c = record { commutes = union_swap; associates = union_group; repeats = union_itself }
