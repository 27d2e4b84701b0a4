use Rattle.std.proofs.Common.{List, subst}
use Rattle.journal.specs.declared.Entry.{Entry}
use Rattle.audit.specs.Worlds.{AreMarkedMore}
use Rattle.audit.proofs.Bringing.{taken_all}
use Rattle.audit.proofs.sources.World.mark.Goals as goal

pub returns-clause-marks : goal.returns-clause-marks
returns-clause-marks c =
    subst (λ (es : List Entry). AreMarkedMore c.args.self.now.contents es c.args.marks.now.items c.loop-entry.marks.items)
    (taken_all c.args.entries.now c.loop-entry.entry-index c.loop-entry-test.false) c.loop-entry.invariant.1
