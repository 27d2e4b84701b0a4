use Rattle.std.proofs.Common.{◌≡◌, take, length}
use Rattle.world.specs.Audit.{all_entries}
use Rattle.audit.specs.Contents.{in_order}
use Rattle.audit.proofs.Bringing.{AreMarked}
use Rattle.audit.proofs.sources.World.are_all_recorded.Given as goal

abbrev pub invariant-loop-journal : goal.invariant-loop-journal
invariant-loop-journal l = (length l.marks.items ≡ length (in_order l.self.contents)) × AreMarked l.self.contents (all_entries (take l.journal-index l.journals)) l.marks.items
