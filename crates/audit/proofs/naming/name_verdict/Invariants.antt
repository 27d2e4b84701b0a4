use Rattle.std.proofs.Common.{◌≡◌, drop}
use Rattle.world.specs.AuditInOrder.{bringer}
use Rattle.world.specs.Bundles.{histories_of}
use Rattle.audit.proofs.naming.name_verdict.Given as goal

abbrev pub invariant-loop-bringer : goal.invariant-loop-bringer
invariant-loop-bringer l = bringer (histories_of l.opened (drop l.bringer-index l.journals)) l.out.next ≡ bringer (histories_of l.opened l.journals) l.out.next
