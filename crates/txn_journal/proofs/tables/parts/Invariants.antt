use Rattle.std.proofs.Common.{◌≡◌, ◌++◌, length, map}
use Rattle.row_images.specs.Parts.{parts_of}
use Rattle.txn_journal.proofs.tables.parts.Given as goal

abbrev pub invariant-parts : goal.invariant-parts
invariant-parts l = parts_of l.separator l.text ≡ map (λ p. p.now) l.parts.items ++ parts_of l.separator l.left

abbrev pub decreases-parts : goal.decreases-parts
decreases-parts l = length l.left
