use Rattle.std.proofs.Common.{subst}
use Rattle.std.specs.Prelude.{vec_capacity}
use Rattle.interval_pool.specs.Intervals.{AreMerged}
use Rattle.interval_pool.specs.Values.{PoolValue, IsPartition, spans}
use Rattle.interval_pool.proofs.pool.Pool.partition.Goals as goal
use Rattle.interval_pool.proofs.Standing.{all_merged}
use Rattle.interval_pool.proofs.Parting.{partition}

pub returns-clause-merged : goal.returns-clause-merged
returns-clause-merged c = λ l.
    let P : PoolValue → Type 0 = λ p. AreMerged (spans p l) in
    subst P c.self.view_is (all_merged c.self.inside.cells.items c.self.inside.heads.items (vec_capacity c.self.inside.cells) l c.self.invariant)

pub returns-clause-parted : goal.returns-clause-parted
returns-clause-parted c = subst IsPartition c.self.view_is (partition c.self.inside.cells.items c.self.inside.heads.items (vec_capacity c.self.inside.cells) c.self.invariant)
