use Rattle.std.proofs.Common.{◌≡◌, take}
use Rattle.std.specs.List.{AllZip}
use Rattle.key_table.proofs.lists.copy_all.Given as goal

abbrev pub invariant-loop-place : goal.invariant-loop-place
invariant-loop-place g l = AllZip (λ p q. (q.0 ≡ p.0) × g.V.Clone.is_clone p.1 q.1) (take l.place l.fn.entries) l.copies.items × (l.list.items ≡ take l.place l.fn.hashes)
