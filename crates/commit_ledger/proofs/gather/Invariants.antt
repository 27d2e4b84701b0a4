use Rattle.std.proofs.Common.{◌≡◌}
use Rattle.commit_ledger.specs.Tallies.{total_portion}
use Rattle.commit_ledger.proofs.gather.Given as goal

abbrev pub invariant-loop-share : goal.invariant-loop-share
invariant-loop-share g l = l.all ≡ total_portion l.yielded
