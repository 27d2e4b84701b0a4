use Rattle.std.proofs.Common.{◌<◌, length}
use Rattle.source_shares.proofs.sharing.least_place.Given as goal

abbrev pub invariant-loop-place : goal.invariant-loop-place
invariant-loop-place l = l.least < length l.fn.loads
