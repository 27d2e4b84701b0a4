-- An allocation may fail anywhere.
use Rattle.std.proofs.Common.{refl}
use Rattle.std.specs.Prelude.{Option, Some, None}
use Rattle.gtid_set.specs.Sets.{Gtids}
use Rattle.gtid_set.specs.declared.fault.SetFault.TheVariants.{Memory}
use Rattle.replica_core.specs.Faults.{IsFaultIn}

pub memory_anywhere : (made : Option Gtids) → IsFaultIn Memory made
memory_anywhere None = refl
memory_anywhere (Some made) = tt
