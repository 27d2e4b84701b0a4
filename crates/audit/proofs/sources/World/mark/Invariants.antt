use Rattle.std.proofs.Common.{◌≡◌, take, length}
use Rattle.audit.specs.Worlds.{AreMarkedMore}
use Rattle.audit.proofs.sources.World.mark.Given as goal

abbrev pub invariant-loop-entry : goal.invariant-loop-entry
invariant-loop-entry l = (length l.marks.items ≡ length l.fn.marks.items) × AreMarkedMore l.self.contents (take l.entry-index l.entries) l.fn.marks.items l.marks.items
