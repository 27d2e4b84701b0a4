use Rattle.std.proofs.Common.{[], refl, arith}
use Rattle.interval_pool.proofs.walk.Walk.empty.Goals as goal

pub invariant_of-result : goal.invariant_of-result
invariant_of-result c = record {
  walks = record { owner = 0; chain = []; linked = tt; begins = refl; few = omega arith; small = omega arith };
  last = refl;
  within = omega arith;
}
