-- Text that is read in blocks.
use Rattle.std.proofs.Common.{◌≡◌, ◌++◌, ◌+◌, ◌<◌, ◌≤◌, List, ℕ, length, inl, Result, Ok, OnOk, ap, subst, ◌∙◌, arith}
use Rattle.std.proofs.lemmas.List.{length-append}
use Rattle.commands.specs.Edge.{BlockFault, Input, ReadFault, one_more}
use Rattle.commands.specs.declared.edge.RunFault.{RunFault}
use Rattle.commands.specs.declared.edge.RunFault.TheVariants.{Memory, Read, Write}

-- why reading ended, where no call had failed before
pub fault_of_block : {S : Type 0} (old mid new : Input S) (fault : RunFault) → mid.failed ≡ old.failed → BlockFault mid new fault → ReadFault old new fault
fault_of_block old mid new Read calm failed = inl (failed ∙ ap one_more calm)
fault_of_block old mid new Memory calm failed = tt
fault_of_block old mid new Write calm failed = failed

-- as long, with one block more
pub as_long : (all next : List ℕ) (n : ℕ) → n ≤ length all → n ≤ length (all ++ next)
as_long all next n many = let long = length-append all next in omega (long, many, arith)

-- longer, with one block more
pub longer : (all next : List ℕ) (n : ℕ) → n ≤ length all → 0 < length next → n + 1 ≤ length (all ++ next)
longer all next n many some = let long = length-append all next in omega (long, many, some, arith)

-- what holds on success
pub at_ok : {T E : Type 0} (P : Type 0) {r : Result T E} {x : T} → r ≡ Ok x → OnOk r P → P
at_ok P e h = subst (λ s. OnOk s P) e h
