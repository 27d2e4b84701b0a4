use Rattle.std.proofs.Common.{◌≡◌, drop, length}
use Rattle.world.specs.Equal.{changes_eq}
use Rattle.audit.proofs.equal.are_same_changes.Given as goal

abbrev pub invariant-loop-i : goal.invariant-loop-i
invariant-loop-i l = (changes_eq (drop l.i l.a) (drop l.i l.b) ≡ changes_eq l.a l.b) × (length l.a ≡ length l.b)
