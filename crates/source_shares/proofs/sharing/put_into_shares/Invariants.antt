use Rattle.std.proofs.Common.{◌≡◌, length}
use Rattle.source_shares.specs.Shares.{AreBelow}
use Rattle.source_shares.proofs.sharing.put_into_shares.Given as goal

abbrev pub invariant-loop-it : goal.invariant-loop-it
invariant-loop-it l = (length l.loads.items ≡ l.count) × AreBelow l.count l.shares.items
