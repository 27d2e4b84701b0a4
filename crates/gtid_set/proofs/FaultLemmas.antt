-- Why a call that makes a set fails.
use Rattle.std.proofs.Common.{◌≡◌, refl, sym, subst, arith}
use Rattle.std.specs.Prelude.{IsOkUnless, ◌≤◌, Result, Ok, Err}
use Rattle.gtid_set.specs.declared.fault.SetFault.{SetFault}
use Rattle.gtid_set.specs.declared.fault.SetFault.TheVariants.{Memory, PoolFull, SourcesFull}
use Rattle.gtid_set.specs.Sets.{Gtids, source_count, most_sources}
use Rattle.gtid_set.specs.Full.{interval_count, most_intervals, IsFullExactly, IsCrowdedExactly, IsMemoryOr, IsFaultOf}

-- a call that was refused exactly was refused for a cause
pub full_fault : (f : SetFault) (s : Gtids) → IsFullExactly {T = Unit {0}} (Err f) s → IsFaultOf f s
full_fault Memory s h = tt
full_fault PoolFull s h = h.1
full_fault SourcesFull s h = h

pub crowded_fault : (f : SetFault) (s : Gtids) → IsCrowdedExactly {T = Unit {0}} (Err f) s → IsFaultOf f s
crowded_fault Memory s h = tt
crowded_fault PoolFull s h = h
crowded_fault SourcesFull s h = absurd h

-- too much of one set, where that means too much of another
pub fault_map : {A B C D : Type 0} (f : SetFault) → (A → B) → (C → D) → IsMemoryOr A C f → IsMemoryOr B D f
fault_map Memory sources intervals h = tt
fault_map PoolFull sources intervals h = intervals h
fault_map SourcesFull sources intervals h = sources h

-- memory may be refused to any call
pub memory_fault : (A B : Type 0) (f : SetFault) → f ≡ Memory → IsMemoryOr A B f
memory_fault A B f is = subst (IsMemoryOr A B) (sym is) tt

-- where there can be neither too many sources nor too many intervals, memory was refused
pub memory_only : {A B : Type 0} (f : SetFault) → (A → ⊥) → (B → ⊥) → IsMemoryOr A B f → f ≡ Memory
memory_only Memory no_sources no_intervals h = refl
memory_only PoolFull no_sources no_intervals h = absurd (no_intervals h)
memory_only SourcesFull no_sources no_intervals h = absurd (no_sources h)

pub crowded_full : {T : Type 0} (r : Result T SetFault) (s : Gtids) → source_count s ≤ most_sources → IsCrowdedExactly r s → IsFullExactly r s
crowded_full (Ok x) s fits few = (fits, few)
crowded_full (Err Memory) s fits many = fits
crowded_full (Err PoolFull) s fits many = (fits, many)
crowded_full (Err SourcesFull) s fits many = absurd many

pub crowded_small : {T : Type 0} (r : Result T SetFault) (s : Gtids) → interval_count s ≤ most_intervals → IsCrowdedExactly r s → IsOkUnless r Memory
crowded_small (Ok x) s small few = tt
crowded_small (Err Memory) s small many = refl
crowded_small (Err PoolFull) s small many = absurd (let m = many in omega (arith, m, small))
crowded_small (Err SourcesFull) s small many = absurd many
