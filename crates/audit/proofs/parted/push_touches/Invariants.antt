use Rattle.std.proofs.Common.{◌≡◌, ◌++◌, drop}
use Rattle.audit.specs.Owned.{touched_by_one}
use Rattle.audit.proofs.parted.push_touches.Given as goal

abbrev pub invariant-loop-mark : goal.invariant-loop-mark
invariant-loop-mark l = l.touches.items ++ touched_by_one l.source (drop l.mark-index l.marks) ≡ l.fn.touches.items ++ touched_by_one l.source l.marks
