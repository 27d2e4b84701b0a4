use Rattle.std.proofs.Common.{◌≡◌, Some, map}
use Rattle.source_shares.proofs.gathering.all_parts.Given as goal

abbrev pub invariant-loop-part : goal.invariant-loop-part
invariant-loop-part l = map Some l.parts.items ≡ l.yielded
