use Rattle.std.proofs.Common.{take}
use Rattle.std.specs.List.{AllByRecursion}
use Rattle.audit.specs.Marks.{owner_of}
use Rattle.audit.specs.Owned.{IsOwnIn, touches_in_lists}
use Rattle.audit.proofs.parted.are_own.Given as goal

abbrev pub invariant-loop-list : goal.invariant-loop-list
invariant-loop-list l = AllByRecursion (IsOwnIn l.part (owner_of l.owners)) (touches_in_lists (take l.list-index l.lists))
