use Rattle.std.proofs.Common.{◌≡◌, ◌++◌, drop, map}
use Rattle.audit.specs.Owned.{touches_of_all}
use Rattle.audit.proofs.parted.touches_in.Given as goal

abbrev pub invariant-loop-entry : goal.invariant-loop-entry
invariant-loop-entry l = l.touches.items ++ touches_of_all l.schema (map (λ e. e.now) (drop l.entry-index l.entries)) ≡ touches_of_all l.schema (map (λ e. e.now) l.entries)
