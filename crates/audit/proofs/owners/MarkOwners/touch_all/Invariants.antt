use Rattle.std.proofs.Common.{◌≡◌, ◌==◌, false, take}
use Rattle.audit.specs.Marks.{TouchesMarks, owner_of}
use Rattle.audit.proofs.owners.MarkOwners.touch_all.Given as goal

abbrev pub invariant-loop-mark : goal.invariant-loop-mark
invariant-loop-mark l = (TouchesMarks (owner_of l.fn.self) (take l.mark-index l.marks) l.source (owner_of l.self)) × ((l.source == 0) ≡ false)
