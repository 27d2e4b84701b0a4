use Rattle.std.proofs.Common.{take}
use Rattle.audit.specs.Marks.{owner_of}
use Rattle.audit.specs.Owned.{OwnsMore}
use Rattle.audit.proofs.parted.touch_part.Given as goal

abbrev pub invariant-loop-touch : goal.invariant-loop-touch
invariant-loop-touch l = OwnsMore l.part (owner_of l.fn.owners) (take l.touch-index l.touches) (owner_of l.owners)
